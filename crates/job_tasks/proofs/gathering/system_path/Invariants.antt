use Rattle.job_tasks.proofs.Cited.{◌≡◌, drop, map, input_seen, system_path}
use Rattle.job_tasks.proofs.gathering.system_path.Given as goal

-- where no line so far names a System, those to come do
abbrev pub invariant-loop-input : goal.invariant-loop-input
invariant-loop-input l =
    system_path (map input_seen (drop l.input-index l.inputs)) ≡ system_path (map input_seen l.inputs)
