use Rattle.zone_replay.proofs.Cited.{◌≡◌, ◌++◌, ℕ, drop, map, Slot, stands_for_handle}
use Rattle.heap_calls.specs.Inner.Numbered.{name_of}
use Rattle.zone_replay.proofs.words.handles_in.Given as goal

-- the numbers so far, before those that are left
abbrev pub invariant-loop-anchor : goal.invariant-loop-anchor
invariant-loop-anchor l = (slots : ℕ → Slot)
    → l.handles.items ++ map stands_for_handle (map (name_of slots) (drop l.anchor-index l.anchors))
    ≡ map stands_for_handle (map (name_of slots) l.anchors)
