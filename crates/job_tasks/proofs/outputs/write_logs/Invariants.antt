use Rattle.job_tasks.proofs.Cited.{◌≡◌, drop, map, string_capacity, told_seen, logs_left, HasRoom, write_of, Made}
use Rattle.job_tasks.proofs.outputs.write_logs.Given as goal

-- nothing is printed, the files of the applications so far are written, and there is room for the paths of the others
abbrev pub invariant-loop-app : goal.invariant-loop-app
invariant-loop-app g l = record {
  silent : g.H.Host.printed l.host ≡ g.H.Host.printed l.fn.host;
  made : Made (map write_of (logs_left l.folder (map told_seen l.apps)))
      (map write_of (logs_left l.folder (map told_seen (drop l.app-index l.apps))))
      (g.H.Host.accesses l.fn.host) (g.H.Host.accesses l.host);
  room : HasRoom l.folder (string_capacity l.path);
}
