use Rattle.segments.proofs.Cited.{◌≡◌, ◌++◌, length, map, take, drop, unloaded_of, view_entries}
use Rattle.segments.proofs.entries.unload_entries.Given as goal

-- the entries so far, with those to come unloaded, are all
abbrev pub invariant-loop-i : goal.invariant-loop-i
invariant-loop-i l = record {
  end : l.i-end ≡ length l.entries;
  all : take l.i (view_entries l.entries) ++ map (unloaded_of l.segment) (drop l.i (view_entries l.entries))
      ≡ map (unloaded_of l.segment) (view_entries l.fn.entries);
}
