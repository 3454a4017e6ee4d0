use Rattle.job_tasks.proofs.Cited.{◌≡◌, drop, map, bytes_eq, list_any, name_of}
use Rattle.job_tasks.proofs.sizing.has_app.Given as goal

-- where no application so far has the name, it is among those to come
abbrev pub invariant-loop-app : goal.invariant-loop-app
invariant-loop-app l = list_any (bytes_eq l.name) (map name_of (drop l.app-index l.apps))
    ≡ list_any (bytes_eq l.name) (map name_of l.apps)
