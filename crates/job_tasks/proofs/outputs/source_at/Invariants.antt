use Rattle.job_tasks.proofs.Cited.{◌≡◌, drop, map, source_given, source_at}
use Rattle.job_tasks.proofs.outputs.source_at.Given as goal

-- the file that is looked for is found among those that are left
abbrev pub invariant-loop-source : goal.invariant-loop-source
invariant-loop-source l = source_at l.app (map source_given (drop l.source-index l.sources)) l.left
    ≡ source_at l.app (map source_given l.sources) l.k
