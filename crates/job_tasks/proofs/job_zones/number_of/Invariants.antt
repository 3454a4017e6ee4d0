use Rattle.job_tasks.proofs.Cited.{◌≡◌, drop, map, bytes_eq, position_from, name_of}
use Rattle.job_tasks.proofs.job_zones.number_of.Given as goal

-- as many applications were looked at as there were, and the first of this name that is still to come has its number
abbrev pub invariant-loop-app : goal.invariant-loop-app
invariant-loop-app l = (l.number ≡ l.app-index)
    × (position_from (bytes_eq l.name) l.number (map name_of (drop l.app-index l.apps))
    ≡ position_from (bytes_eq l.name) 0 (map name_of l.apps))
