use Rattle.fork_tasks.proofs.Cited.{◌≡◌, drop, length, map, string_bytes}
use Rattle.fork_tasks.proofs.Packed.{Came}
use Rattle.fork_tasks.proofs.packing.read_files.Given as goal

-- nothing is printed, and the files so far are read
abbrev pub invariant-loop-path : goal.invariant-loop-path
invariant-loop-path g l = record {
  silent : g.H.Host.printed l.host ≡ g.H.Host.printed l.fn.host;
  count : length l.files.items ≡ l.path-index;
  came : Came (map string_bytes l.paths) (map string_bytes (drop l.path-index l.paths)) (map (λ file. file.items) l.files.items)
      (g.H.Host.accesses l.fn.host) (g.H.Host.accesses l.host);
}
