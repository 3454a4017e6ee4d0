use Rattle.job_tasks.proofs.Cited.{◌≡◌, drop, map, part_seen}
use Rattle.job_tasks.specs.Loading.{system_path}
use Rattle.job_tasks.proofs.loading.system_path.Given as goal

-- where no part so far is the System file, it is among those to come
abbrev pub invariant-loop-part : goal.invariant-loop-part
invariant-loop-part l =
    system_path (map part_seen (drop l.part-index l.parts)) ≡ system_path (map part_seen l.parts)
