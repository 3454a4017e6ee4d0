use Rattle.fork_tasks.proofs.Cited.{◌≡◌, drop, list_any, is_source, kind_at}
use Rattle.fork_tasks.proofs.linting.has_source.Given as goal

-- whether one of the paths is that of a source is whether one of those that are left is
abbrev pub invariant-loop-path : goal.invariant-loop-path
invariant-loop-path l = list_any (λ path. is_source (kind_at l.asked path.now)) (drop l.path-index l.paths)
    ≡ list_any (λ path. is_source (kind_at l.asked path.now)) l.paths
