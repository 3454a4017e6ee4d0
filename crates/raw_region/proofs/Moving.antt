-- One more stride of bytes that move within a list.
use Rattle.raw_region.proofs.Cited.{◌≡◌, ℕ, ◌+◌, ◌≤◌, List, ◌++◌, length, take, drop, sym, ap, ◌∙◌, arith, take-append-drop, length-take-le}
use Rattle.raw_region.proofs.Cited.{length-drop, drop-drop, drop-take, take-take, written, drop-written_above, piece-written_below}
use Rattle.raw_region.proofs.Cited.{written-then, written-before}

-- the first i + n are the first i and the n after them
two_takes : (i n : ℕ) (xs : List ℕ) → take i xs ++ take n (drop i xs) ≡ take (i + n) xs
two_takes i n xs = (λ j. sym (take-take i (i + n) xs (omega arith)) j ++ sym (drop-take i n xs) j)
    ∙ take-append-drop i (take (i + n) xs)

module _ (xs : List ℕ) where
  -- going up from the first byte, where the bytes go down
  pub stride_down : (from to i n : ℕ) → to ≤ from → from + i + n ≤ length xs
      → let ys = written to (take i (drop from xs)) xs in
      written (to + i) (take n (drop (from + i) ys)) ys ≡ written to (take (i + n) (drop from xs)) xs
  stride_down from to i n low fits =
      let A = take i (drop from xs) in
      let B = take n (drop (from + i) xs) in
      let d = length-drop from xs in
      let d' = length-drop (from + i) xs in
      let a : length A ≡ i = length-take-le i (drop from xs) (omega (arith, d, fits)) in
      let b : length B ≡ n = length-take-le n (drop (from + i) xs) (omega (arith, d', fits)) in
      let still : drop (from + i) (written to A xs) ≡ drop (from + i) xs =
      drop-written_above to A xs (from + i) (omega (arith, a, low)) (omega (arith, low, fits)) in
      let joined : A ++ B ≡ take (i + n) (drop from xs) = ap (λ l. A ++ take n l) (sym (drop-drop i from xs))
      ∙ two_takes i n (drop from xs) in
      ap (λ l. written (to + i) (take n l) (written to A xs)) still
      ∙ ap (λ k. written (to + k) B (written to A xs)) (sym a)
      ∙ written-then to A B xs (omega (arith, a, b, low, fits)) ∙ ap (λ l. written to l xs) joined

  -- going down from the last byte, where the bytes go up
  pub stride_up : (from to i n c : ℕ) → from ≤ to → to + i + n + c ≤ length xs
      → let ys = written (to + (i + n)) (take c (drop (from + (i + n)) xs)) xs in
      written (to + i) (take n (drop (from + i) ys)) ys ≡ written (to + i) (take (n + c) (drop (from + i) xs)) xs
  stride_up from to i n c low fits =
      let A = take n (drop (from + i) xs) in
      let B = take c (drop (from + (i + n)) xs) in
      let ys = written (to + (i + n)) B xs in
      let d = length-drop (from + i) xs in
      let d' = length-drop (from + (i + n)) xs in
      let a : length A ≡ n = length-take-le n (drop (from + i) xs) (omega (arith, d, low, fits)) in
      let b : length B ≡ c = length-take-le c (drop (from + (i + n)) xs) (omega (arith, d', low, fits)) in
      let still : take n (drop (from + i) ys) ≡ A = piece-written_below (to + (i + n)) B xs (from + i) n
      (omega (arith, low)) (omega (arith, fits)) in
      let place : to + (i + n) ≡ to + i + length A = omega (arith, a) in
      let apart : from + (i + n) ≡ from + i + n = omega arith in
      let joined : A ++ B ≡ take (n + c) (drop (from + i) xs) = ap (λ l. A ++ take c l) (ap (λ k. drop k xs) apart
      ∙ sym (drop-drop n (from + i) xs)) ∙ two_takes n c (drop (from + i) xs) in
      ap (λ l. written (to + i) l ys) still ∙ ap (λ k. written (to + i) A (written k B xs)) place
      ∙ written-before (to + i) A B xs (omega (arith, a, b, fits)) ∙ ap (λ l. written (to + i) l xs) joined
