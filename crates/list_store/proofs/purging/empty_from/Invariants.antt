use Rattle.list_store.proofs.Cited.{◌≡◌, ◌++◌, take, drop, length, sizes, lowest_purged, spared, blocks_of}
use Rattle.list_store.proofs.purging.empty_from.Given as goal

-- the entries so far, followed by the rest with those purged that are left to go, are all
abbrev pub invariant-loop-i : goal.invariant-loop-i
invariant-loop-i l = record {
  blocks : take l.i (blocks_of l.entries.items) ++ lowest_purged l.left (spared l.sparing)
      (drop l.i (blocks_of l.entries.items)) ≡ take l.from (blocks_of l.initial.entries.items)
      ++ lowest_purged l.purges (spared l.sparing) (drop l.from (blocks_of l.initial.entries.items));
  bytes : sizes (blocks_of l.entries.items) ≡ sizes (blocks_of l.initial.entries.items);
  many : length l.entries.items ≡ length l.initial.entries.items;
}
