use Rattle.job_tasks.proofs.Cited.{◌≡◌, ◌∷◌, ◌++◌, [], ℕ, List, Err, map, subst, rules, map-append, string_bytes, view_file, Access, Write}
use Rattle.job_tasks.proofs.Cited.{StopsAt, and_then, source_given, log_within, forks_within, source_at, player_name, left_alone, write_of}
use Rattle.job_tasks.proofs.Cited.{told_err, front_at, sooner_at, later_at}
use Rattle.job_tasks.proofs.playing.write_files.Goals as goal

-- a fork was not written
pub returns-in_err-write_forks_within-clause-stopped : goal.returns-in_err-write_forks_within-clause-stopped
returns-in_err-write_forks_within-clause-stopped g c =
    let forks : List Access = map write_of (forks_within c.args.folder.now player_name
    (source_at 0 (map source_given c.args.sources.now)) 0 c.args.given.files) in
    let log : List Access = Write (log_within c.args.folder.now player_name) c.args.given.transcript ∷ [] in
    let all : map write_of (left_alone c.args.folder.now (map source_given c.args.sources.now) c.args.given) ≡ forks ++ log =
    search (rules, map-append) in
    let named = subst (λ n. StopsAt (map write_of (forks_within c.args.folder.now n
    (source_at 0 (map source_given c.args.sources.now)) 0 (map view_file c.files.result.now))) (g.H.Host.accesses c.args.host.now)
    (g.H.Host.accesses c.write_forks_within.new.host) (string_bytes c.write_forks_within.new.path)
    c.in_err-write_forks_within.field-0.0) c.player_name-name.ensures c.in_err-write_forks_within.ensures.stopped in
    let stops : StopsAt forks (g.H.Host.accesses c.args.host.now) (g.H.Host.accesses c.write_forks_within.new.host)
    (string_bytes c.write_forks_within.new.path) c.in_err-write_forks_within.field-0.0 =
    subst (λ l. StopsAt (map write_of (forks_within c.args.folder.now player_name
    (source_at 0 (map source_given c.args.sources.now)) 0 l)) (g.H.Host.accesses c.args.host.now)
    (g.H.Host.accesses c.write_forks_within.new.host) (string_bytes c.write_forks_within.new.path)
    c.in_err-write_forks_within.field-0.0) c.files.ensures named in
    let same : c.from_residual.result ≡ Err c.in_err-write_forks_within.field-0.0 = search rules in
    told_err _ _ _ same (sooner_at _ forks log _ _ _ _ all stops)

-- the transcript was not written
pub returns-in_err-write-clause-stopped : goal.returns-in_err-write-clause-stopped
returns-in_err-write-clause-stopped g c =
    let forks : List Access = map write_of (forks_within c.args.folder.now player_name
    (source_at 0 (map source_given c.args.sources.now)) 0 c.args.given.files) in
    let path : List ℕ = string_bytes c.set_log_path.new.path in
    let log : List Access = Write path c.args.given.transcript ∷ [] in
    let all : map write_of (left_alone c.args.folder.now (map source_given c.args.sources.now) c.args.given) ≡ forks ++ log =
    search (rules, map-append) in
    let made : g.H.Host.accesses c.write_forks_within.new.host ≡ and_then (g.H.Host.accesses c.args.host.now) forks =
    search rules in
    let same : c.from_residual-in_err-write.result ≡ Err c.in_err-write.field-0.0 = search rules in
    told_err _ _ _ same (later_at _ forks log _ _ _ _ _ all made
    (front_at path c.args.given.transcript _ _ [] _ _ _ c.in_err-write.ensures.front (search rules) (search rules)))
