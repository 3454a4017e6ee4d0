use Rattle.job_tasks.proofs.Cited.{◌≡◌, drop, map, part_seen, with_parts, forks_seen}
use Rattle.job_tasks.specs.Loading.{nothing_given}
use Rattle.job_tasks.proofs.loading.forks_given.Given as goal

-- what the parts to come add to the forks so far is what all parts give
abbrev pub invariant-loop-i : goal.invariant-loop-i
invariant-loop-i l = with_parts (forks_seen l.forks) (map part_seen (drop l.i l.parts)) (map (λ text. text.items) (drop l.i l.texts))
    ≡ with_parts nothing_given (map part_seen l.parts) (map (λ text. text.items) l.texts)
