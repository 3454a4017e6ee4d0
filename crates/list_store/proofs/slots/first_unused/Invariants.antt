use Rattle.list_store.proofs.Cited.{◌≡◌, take, count_by, is_unused}
use Rattle.list_store.proofs.slots.first_unused.Given as goal

-- none so far
abbrev pub invariant-loop-i : goal.invariant-loop-i
invariant-loop-i l = count_by is_unused (take l.i l.slots) ≡ 0
