use Rattle.job_tasks.proofs.Cited.{◌≡◌, ◌∷◌, [], ℕ, List, Err, map, subst, rules, string_bytes, view_file, Write, StopsAt, owner_source}
use Rattle.job_tasks.proofs.Cited.{kept, forks_within, write_of, told_err, front_at}
use Rattle.job_tasks.proofs.outputs.write_fork.Goals as goal

pub returns-in_err-write_kept-clause-stopped : goal.returns-in_err-write_kept-clause-stopped
returns-in_err-write_kept-clause-stopped g c =
    let path : List ℕ = string_bytes c.set_fork_path.new.path in
    let bytes : List ℕ = kept (owner_source c.args.owner c.args.k) c.args.file.now.fork.items in
    let all : Write path bytes ∷ [] ≡ map write_of (forks_within c.args.folder.now c.args.owner.name.now.0.items
    (owner_source c.args.owner) c.args.k (view_file c.args.file.now ∷ [])) = search rules in
    let same : c.from_residual.result ≡ Err c.in_err-write_kept.field-0.0 = search rules in
    told_err _ _ _ same (subst (λ l. StopsAt l (g.H.Host.accesses c.args.host.now) (g.H.Host.accesses c.write_kept.new.host)
    path c.in_err-write_kept.field-0.0) all
    (front_at path bytes _ _ [] _ _ _ c.in_err-write_kept.ensures.front (search rules) (search rules)))
