use Rattle.list_store.proofs.Cited.{◌≡◌, drop, has, is_free, blocks_of}
use Rattle.list_store.proofs.packing.first_free.Given as goal

-- what is Free is among the rest
abbrev pub invariant-loop-i : goal.invariant-loop-i
invariant-loop-i l = has is_free (drop l.i (blocks_of l.entries)) ≡ has is_free (blocks_of l.entries)
