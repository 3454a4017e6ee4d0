use Rattle.list_store.proofs.Cited.{◌≡◌, drop, is_relocatable, has, blocks_of}
use Rattle.list_store.proofs.packing.index_of.Given as goal

-- what passes is among the rest
abbrev pub invariant-loop-i : goal.invariant-loop-i
invariant-loop-i l = has (is_relocatable l.number) (drop l.i (blocks_of l.entries))
    ≡ has (is_relocatable l.number) (blocks_of l.entries)
