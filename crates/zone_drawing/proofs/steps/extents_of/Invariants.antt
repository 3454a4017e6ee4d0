use Rattle.zone_drawing.proofs.Cited.{◌≡◌, ℕ, map, drop, get, nat_cmp, extent_of, view_line}
use Rattle.zone_drawing.proofs.steps.extents_of.Given as goal

-- the blocks from this one upward were noted
abbrev pub invariant-loop-index : goal.invariant-loop-index
invariant-loop-index l = (number : ℕ)
    → get nat_cmp l.extents number ≡ extent_of (map view_line (drop l.index l.lines)) number
