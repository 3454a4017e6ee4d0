use Rattle.fork_tasks.proofs.Cited.{◌≡◌, drop, map, types_of}
use Rattle.fork_tasks.proofs.Declared.{Known}
use Rattle.fork_tasks.proofs.declaring.declare_files.Given as goal

-- nothing is printed, and the types of the files so far are known
abbrev pub invariant-loop-path : goal.invariant-loop-path
invariant-loop-path g l = record {
  silent : g.H.Host.printed l.host ≡ g.H.Host.printed l.fn.host;
  known : Known (map (λ path. path.now) l.paths) (map (λ path. path.now) (drop l.path-index l.paths))
      (types_of l.fn.types) (types_of l.known) (g.H.Host.accesses l.fn.host) (g.H.Host.accesses l.host);
}
