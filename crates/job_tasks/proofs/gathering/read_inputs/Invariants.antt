use Rattle.job_tasks.proofs.Cited.{◌≡◌, take, drop, map, IsTrue, input_seen, app_names, all_follow, name_of, gathered}
use Rattle.job_tasks.proofs.Inputs.{Come}
use Rattle.job_tasks.proofs.gathering.read_inputs.Given as goal

-- the applications so far are those of the lines so far, which the others may follow, and the lines so far are gathered
abbrev pub invariant-loop-input : goal.invariant-loop-input
invariant-loop-input g l = record {
  silent : g.H.Host.printed l.host ≡ g.H.Host.printed l.fn.host;
  names : map name_of l.all.apps.items ≡ app_names (map input_seen (take l.input-index l.inputs));
  order : IsTrue (all_follow (map input_seen (take l.input-index l.inputs))
      (map input_seen (drop l.input-index l.inputs)));
  come : Come (map input_seen l.inputs) (map input_seen (drop l.input-index l.inputs)) (g.H.Host.accesses l.fn.host)
      (g.H.Host.accesses l.host) (gathered l.all);
}
