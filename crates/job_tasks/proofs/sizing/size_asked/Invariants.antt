use Rattle.job_tasks.proofs.Cited.{◌≡◌, drop, name_of, size_asked}
use Rattle.job_tasks.proofs.sizing.size_asked.Given as goal

-- where no size so far is for the application, the first that is, is among those to come
abbrev pub invariant-loop-asked : goal.invariant-loop-asked
invariant-loop-asked l = size_asked (name_of l.app) l.app.size (drop l.asked-index l.sizes)
    ≡ size_asked (name_of l.app) l.app.size l.sizes
