use Rattle.job_tasks.proofs.Cited.{◌≡◌, drop, map, string_capacity, view_file, owner_source, forks_within, HasRoom, write_of, Made}
use Rattle.job_tasks.proofs.outputs.write_forks_within.Given as goal

-- nothing is printed, the forks so far are written, and there is room for the paths of the others
abbrev pub invariant-loop-k : goal.invariant-loop-k
invariant-loop-k g l = record {
  silent : g.H.Host.printed l.host ≡ g.H.Host.printed l.fn.host;
  made : Made (map write_of (forks_within l.folder l.owner.name.now.0.items (owner_source l.owner) 0
      (map view_file l.files)))
      (map write_of (forks_within l.folder l.owner.name.now.0.items (owner_source l.owner) l.k
      (map view_file (drop l.k l.files))))
      (g.H.Host.accesses l.fn.host) (g.H.Host.accesses l.host);
  room : HasRoom l.folder (string_capacity l.path);
}
