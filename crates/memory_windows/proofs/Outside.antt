-- A byte outside what is written over is as it was.
use Rattle.memory_windows.proofs.Cited.{◌≡◌, ℕ, ◌+◌, ◌≤◌, inl, inr, zero, suc, List, [], ◌∷◌, Option, Some, None, length, slice_get, refl}
use Rattle.memory_windows.proofs.Cited.{sym, ◌∙◌, ap, arith, Window, IsOutside, written, piece}
use Rattle.memory_windows.proofs.Pieces.{piece-written_below, piece-written_above}

abbrev first_of : List ℕ → Option ℕ
first_of [] = None
first_of (x ∷ xs) = Some x

got-piece : (xs : List ℕ) (i : ℕ) → slice_get xs i ≡ first_of (piece i 1 xs)
got-piece [] zero = refl
got-piece [] (suc i) = refl
got-piece (x ∷ xs) zero = refl
got-piece (x ∷ xs) (suc i) = got-piece xs i

written-outside : (w : Window) (ys xs : List ℕ) (place : ℕ) → length ys ≡ w.len → w.at + w.len ≤ length xs
    → IsOutside place w → piece place 1 (written w.at ys xs) ≡ piece place 1 xs
written-outside w ys xs place n h (inl below) =
    piece-written_below w.at ys xs place 1 (omega (arith, below)) (omega (arith, h))
written-outside w ys xs place n h (inr above) =
    piece-written_above w.at ys xs place 1 (omega (arith, n, above)) (omega (arith, h))

-- bytes are written over a window
pub got-written_outside : (w : Window) (ys xs new : List ℕ) → length ys ≡ w.len → w.at + w.len ≤ length xs
    → new ≡ written w.at ys xs → (place : ℕ) → IsOutside place w → slice_get new place ≡ slice_get xs place
got-written_outside w ys xs new n h e place out =
    got-piece new place ∙ ap (λ zs. first_of (piece place 1 zs)) e
    ∙ ap first_of (written-outside w ys xs place n h out) ∙ sym (got-piece xs place)
