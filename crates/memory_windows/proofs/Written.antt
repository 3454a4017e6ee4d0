-- For callers: a stretch that is written is its first part written, and the rest, in either order.
use Rattle.memory_windows.proofs.Cited.{◌≡◌, ℕ, ◌+◌, ◌≤◌, List, ◌++◌, length, take, drop, refl, sym, ap, ◌∙◌, arith, append_assoc}
use Rattle.memory_windows.proofs.Cited.{length-append, length-take-le, drop_at, written}
use Rattle.memory_windows.proofs.Pieces.{take-written_below, written-written}

module _ (at : ℕ) (A B xs : List ℕ) (fits : at + length A + length B ≤ length xs) where
  -- the first part and then the rest
  pub written-then : written (at + length A) B (written at A xs) ≡ written at (A ++ B) xs
  written-then = written-written at (at + length A) A B xs refl (omega (arith, fits))

  -- the rest and then the first part
  pub written-before : written at A (written (at + length A) B xs) ≡ written at (A ++ B) xs
  written-before =
      let F = take (at + length A) xs in
      let R = drop (at + length A + length B) xs in
      let long : length F ≡ at + length A = length-take-le (at + length A) xs (omega (arith, fits)) in
      let a = length-append A B in
      let place : at + length A + length B ≡ at + length (A ++ B) = omega (arith, a) in
      (λ j. (take-written_below (at + length A) B xs at (omega arith) (omega (arith, fits)) j ++ A)
      ++ (ap (drop (at + length A)) (append_assoc F B R) ∙ drop_at F (B ++ R) (at + length A) long) j)
      ∙ sym (append_assoc (take at xs ++ A) B R) ∙ (λ j. append_assoc (take at xs) A B j ++ drop (place j) xs)
