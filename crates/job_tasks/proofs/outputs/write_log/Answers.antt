use Rattle.job_tasks.proofs.Cited.{◌≡◌, ◌∷◌, [], ℕ, List, Err, map, subst, rules, string_bytes, told_seen, Write, StopsAt, log_left}
use Rattle.job_tasks.proofs.Cited.{write_of, told_err, front_at}
use Rattle.job_tasks.proofs.outputs.write_log.Goals as goal

pub returns-in_err-write-clause-stopped : goal.returns-in_err-write-clause-stopped
returns-in_err-write-clause-stopped g c =
    let path : List ℕ = string_bytes c.set_log_path.new.path in
    let bytes : List ℕ = c.in-Some.launched.transcript.items in
    let all : Write path bytes ∷ [] ≡ map write_of (log_left c.args.folder.now (told_seen c.args.app.now)) = search rules in
    let same : c.from_residual.result ≡ Err c.in_err-write.field-0.0 = search rules in
    told_err _ _ _ same (subst (λ l. StopsAt l (g.H.Host.accesses c.args.host.now) (g.H.Host.accesses c.write.new.self) path
    c.in_err-write.field-0.0) all (front_at path bytes _ _ [] _ _ _ c.in_err-write.ensures.front (search rules) (search rules)))
