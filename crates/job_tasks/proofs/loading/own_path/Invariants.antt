use Rattle.job_tasks.proofs.Cited.{◌≡◌, drop, map, part_seen, own_path}
use Rattle.job_tasks.proofs.loading.own_path.Given as goal

-- where no part so far is the application's own fork, it is among those to come
abbrev pub invariant-loop-part : goal.invariant-loop-part
invariant-loop-part l =
    own_path (map part_seen (drop l.part-index l.parts)) ≡ own_path (map part_seen l.parts)
