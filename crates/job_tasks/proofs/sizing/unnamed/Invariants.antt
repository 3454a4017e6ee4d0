use Rattle.job_tasks.proofs.Cited.{◌≡◌, drop, map, name_of, unnamed_in}
use Rattle.job_tasks.proofs.sizing.unnamed.Given as goal

-- where each name so far is an application's, the first that is none is among those to come
abbrev pub invariant-loop-asked : goal.invariant-loop-asked
invariant-loop-asked l =
    unnamed_in (map name_of l.apps) (drop l.asked-index l.sizes) ≡ unnamed_in (map name_of l.apps) l.sizes
