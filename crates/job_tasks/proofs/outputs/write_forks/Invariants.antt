use Rattle.job_tasks.proofs.Cited.{◌≡◌, drop, map, string_capacity, told_seen, source_given, all_forks_left, HasRoom, write_of, Made}
use Rattle.job_tasks.proofs.outputs.write_forks.Given as goal

-- nothing is printed, the forks of the applications so far are written, and there is room for the paths of the others
abbrev pub invariant-loop-n : goal.invariant-loop-n
invariant-loop-n g l = record {
  silent : g.H.Host.printed l.host ≡ g.H.Host.printed l.fn.host;
  made : Made (map write_of (all_forks_left l.folder (map source_given l.sources) 0 (map told_seen l.apps)))
      (map write_of (all_forks_left l.folder (map source_given l.sources) l.n (map told_seen (drop l.n l.apps))))
      (g.H.Host.accesses l.fn.host) (g.H.Host.accesses l.host);
  room : HasRoom l.folder (string_capacity l.path);
}
