use Rattle.transcript_words.proofs.Cited.{◌≡◌, ℕ, map, drop, get, nat_cmp, place_of, view_placed}
use Rattle.transcript_words.proofs.changes.places_of.Given as goal

-- the blocks from this one upward were noted
abbrev pub invariant-loop-index : goal.invariant-loop-index
invariant-loop-index l = (number : ℕ)
    → get nat_cmp l.places number ≡ place_of (map view_placed (drop l.index l.blocks)) number
