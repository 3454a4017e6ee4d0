use Rattle.list_store.proofs.Cited.{◌≡◌, ◌++◌, take, drop, freed, is_relocatable, blocks_of}
use Rattle.list_store.proofs.entries.free_slot.Given as goal

-- those so far are freed, the others as they were
abbrev pub invariant-loop-i : goal.invariant-loop-i
invariant-loop-i l = blocks_of l.entries.items ≡ freed (is_relocatable l.number)
    (take l.i (blocks_of l.initial.entries.items)) ++ drop l.i (blocks_of l.initial.entries.items)
