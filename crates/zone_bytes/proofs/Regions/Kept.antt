-- What lies in a window stays where another one is written.
use Rattle.zone_bytes.proofs.Cited.{◌≡◌, ℕ, ◌+◌, ◌≤◌, List, length, subst, arith, Window, Misses, written, piece-written_below}
use Rattle.zone_bytes.proofs.Cited.{piece-written_above, Block, Slot, LaysOut, LiesThere}

-- a zone lies in a window still, where bytes were written into a window that misses it
pub lies-kept : (at : ℕ) (ys xs new : List ℕ) (v : Window) → at ≡ v.at → length ys ≡ v.len → v.at + v.len ≤ length xs
    → new ≡ written at ys xs → (w : Window) (blocks : List Block) (slots : ℕ → Slot) → Misses w v
    → LiesThere xs w blocks slots → LiesThere new w blocks slots
lies-kept at ys xs new v a n h e w blocks slots misses lies =
    subst (λ bytes. LaysOut bytes blocks slots) (grind (arith, piece-written_above, piece-written_below)) lies
