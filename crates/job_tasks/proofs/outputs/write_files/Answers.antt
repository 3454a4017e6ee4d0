use Rattle.job_tasks.proofs.Cited.{◌≡◌, ◌∷◌, ◌++◌, [], ℕ, List, Err, map, refl, subst, rules, map-append, string_bytes, Outcome}
use Rattle.job_tasks.proofs.Cited.{outcome_seen, Access, Write, StopsAt, and_then, GivenSource, source_given, Written, left_by, logs_left}
use Rattle.job_tasks.proofs.Cited.{all_forks_left, sources_unless, desk_within, write_of, told_err, front_at, sooner_at, later_at}
use Rattle.job_tasks.proofs.outputs.write_files.Goals as goal

pub returns-in_err-write-clause-stopped : goal.returns-in_err-write-clause-stopped
returns-in_err-write-clause-stopped g c =
    let o : Outcome = outcome_seen c.args.outcome.now in
    let sources : List GivenSource = map source_given c.args.sources.now in
    let path : List ℕ = string_bytes c.set_desk_path.new.path in
    let files : List Written = logs_left c.args.folder.now o.apps
    ++ all_forks_left c.args.folder.now (sources_unless o.stopped sources) 0 o.apps in
    let all : Write path o.log ∷ map write_of files ≡ map write_of (left_by c.args.folder.now sources o) = search rules in
    let same : c.from_residual.result ≡ Err c.in_err-write.field-0.0 = search rules in
    told_err _ _ _ same
    (subst (λ l. StopsAt l (g.H.Host.accesses c.args.host.now) (g.H.Host.accesses c.write.new.self) path c.in_err-write.field-0.0) all
    (front_at path o.log _ _ (map write_of files) _ _ _ c.in_err-write.ensures.front (search rules) (search rules)))

pub returns-in_err-write_logs-clause-stopped : goal.returns-in_err-write_logs-clause-stopped
returns-in_err-write_logs-clause-stopped g c =
    let o : Outcome = outcome_seen c.args.outcome.now in
    let sources : List GivenSource = map source_given c.args.sources.now in
    let log : List Access = Write (desk_within c.args.folder.now) o.log ∷ [] in
    let logs : List Access = map write_of (logs_left c.args.folder.now o.apps) in
    let forks : List Access =
    map write_of (all_forks_left c.args.folder.now (sources_unless o.stopped sources) 0 o.apps) in
    let all : map write_of (left_by c.args.folder.now sources o) ≡ log ++ (logs ++ forks) = search (rules, map-append) in
    let made : g.H.Host.accesses c.write.new.self ≡ and_then (g.H.Host.accesses c.args.host.now) log = search rules in
    let stops : StopsAt logs (g.H.Host.accesses c.write.new.self) (g.H.Host.accesses c.write_logs.new.host)
    (string_bytes c.write_logs.new.path) c.in_err-write_logs.field-0.0 = search rules in
    let same : c.from_residual-in_err-write_logs.result ≡ Err c.in_err-write_logs.field-0.0 = search rules in
    told_err _ _ _ same (later_at _ log (logs ++ forks) _ _ _ _ _ all made (sooner_at _ logs forks _ _ _ _ refl stops))

pub returns-in_err-write_forks-clause-stopped : goal.returns-in_err-write_forks-clause-stopped
returns-in_err-write_forks-clause-stopped g c =
    let o : Outcome = outcome_seen c.args.outcome.now in
    let sources : List GivenSource = map source_given c.args.sources.now in
    let log : List Access = Write (desk_within c.args.folder.now) o.log ∷ [] in
    let logs : List Access = map write_of (logs_left c.args.folder.now o.apps) in
    let forks : List Access =
    map write_of (all_forks_left c.args.folder.now (sources_unless o.stopped sources) 0 o.apps) in
    let all : map write_of (left_by c.args.folder.now sources o) ≡ log ++ (logs ++ forks) = search (rules, map-append) in
    let made : g.H.Host.accesses c.write.new.self ≡ and_then (g.H.Host.accesses c.args.host.now) log = search rules in
    let more : g.H.Host.accesses c.write_logs.new.host ≡ and_then (g.H.Host.accesses c.write.new.self) logs = search rules in
    let stops : StopsAt forks (g.H.Host.accesses c.write_logs.new.host) (g.H.Host.accesses c.write_forks.new.host)
    (string_bytes c.write_forks.new.path) c.in_err-write_forks.field-0.0 = search rules in
    let same : c.from_residual-in_err-write_forks.result ≡ Err c.in_err-write_forks.field-0.0 = search rules in
    told_err _ _ _ same (later_at _ log (logs ++ forks) _ _ _ _ _ all made (later_at _ logs forks _ _ _ _ _ refl more stops))
