use Rattle.list_store.proofs.Cited.{◌≡◌, drop, is_relocatable, blocks_of, found}
use Rattle.list_store.proofs.sizing.resized_slot.Given as goal

-- the rest has the same block of the slot
abbrev pub invariant-loop-entry : goal.invariant-loop-entry
invariant-loop-entry l = found (is_relocatable l.number) (drop l.entry-index (blocks_of l.entries))
    ≡ found (is_relocatable l.number) (blocks_of l.entries)
