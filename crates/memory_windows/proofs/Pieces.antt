-- For callers: pieces of a list that was written over from a place on.
use Rattle.memory_windows.proofs.Cited.{◌≡◌, ℕ, ◌+◌, ◌-◌, ◌≤◌, List, ◌++◌, length, take, drop, sym, ap, ◌∙◌, arith, append_assoc}
use Rattle.memory_windows.proofs.Cited.{length-append, length-take-le, length-drop, take-append-le, take_at, drop_at, drop-append-le}
use Rattle.memory_windows.proofs.Cited.{drop-drop, take-take, drop-take, take-append-add, written, piece}
use Rattle.std.proofs.lemmas.List.{take-append-drop}

module _ (at : ℕ) (ys xs : List ℕ) where
  pub length-written : at + length ys ≤ length xs → length (written at ys xs) ≡ length xs
  length-written h =
      let a = length-append (take at xs ++ ys) (drop (at + length ys) xs) in
      let b = length-append (take at xs) ys in
      let t = length-take-le at xs (omega arith) in
      let d = length-drop (at + length ys) xs in
      omega (arith, a, b, t, d)

  -- what comes first, up to the end of what was written
  pub take-written_at : (n : ℕ) → n ≡ at + length ys → at ≤ length xs → take n (written at ys xs) ≡ take at xs ++ ys
  take-written_at n e h =
      let b = length-append (take at xs) ys in
      let t = length-take-le at xs h in
      take_at (take at xs ++ ys) (drop (at + length ys) xs) n (omega (arith, b, t, e))

  -- what lies below
  pub take-written_below : (n : ℕ) → n ≤ at → at ≤ length xs → take n (written at ys xs) ≡ take n xs
  take-written_below n h l =
      let t = length-take-le at xs l in
      ap (take n) (append_assoc (take at xs) ys (drop (at + length ys) xs))
      ∙ take-append-le n (take at xs) (ys ++ drop (at + length ys) xs) (omega (arith, t, h)) ∙ take-take n at xs h

  -- what lies above
  pub drop-written_above : (n : ℕ) → at + length ys ≤ n → at ≤ length xs → drop n (written at ys xs) ≡ drop n xs
  drop-written_above n h l =
      let b = length-append (take at xs) ys in
      let t = length-take-le at xs l in
      let m : (at + length ys) + (n - (at + length ys)) ≡ n = omega (arith, h) in
      sym (ap (λ k. drop k (written at ys xs)) m)
      ∙ sym (drop-drop (n - (at + length ys)) (at + length ys) (written at ys xs))
      ∙ ap (drop (n - (at + length ys)))
      (drop_at (take at xs ++ ys) (drop (at + length ys) xs) (at + length ys) (omega (arith, b, t)))
      ∙ drop-drop (n - (at + length ys)) (at + length ys) xs ∙ ap (λ k. drop k xs) m

  -- the part above a place below what was written
  pub drop-written_below : (n : ℕ) → n ≤ at → at ≤ length xs
      → drop n (written at ys xs) ≡ written (at - n) ys (drop n xs)
  drop-written_below n h l =
      let t = length-take-le at xs l in
      let m : n + (at - n) ≡ at = omega (arith, h) in
      let k : n + (at - n + length ys) ≡ at + length ys = omega (arith, h) in
      ap (drop n) (append_assoc (take at xs) ys (drop (at + length ys) xs))
      ∙ drop-append-le n (take at xs) (ys ++ drop (at + length ys) xs) (omega (arith, t, h))
      ∙ ap (λ p. p ++ (ys ++ drop (at + length ys) xs)) (ap (λ j. drop n (take j xs)) (sym m) ∙ drop-take n (at - n) xs)
      ∙ ap (λ j. take (at - n) (drop n xs) ++ (ys ++ drop j xs)) (sym k)
      ∙ ap (λ q. take (at - n) (drop n xs) ++ (ys ++ q)) (sym (drop-drop (at - n + length ys) n xs))
      ∙ sym (append_assoc (take (at - n) (drop n xs)) ys (drop (at - n + length ys) (drop n xs)))

  -- what was written is read back
  pub piece-written : (n : ℕ) → n ≡ length ys → at ≤ length xs → piece at n (written at ys xs) ≡ ys
  piece-written n e l =
      let t = length-take-le at xs l in
      ap (λ q. take n (drop at q)) (append_assoc (take at xs) ys (drop (at + length ys) xs))
      ∙ ap (take n) (drop_at (take at xs) (ys ++ drop (at + length ys) xs) at t)
      ∙ take_at ys (drop (at + length ys) xs) n (sym e)

  -- other pieces stay
  pub piece-written_below : (i n : ℕ) → i + n ≤ at → at ≤ length xs → piece i n (written at ys xs) ≡ piece i n xs
  piece-written_below i n h l =
      sym (drop-take i n (written at ys xs)) ∙ ap (drop i) (take-written_below (i + n) h l) ∙ drop-take i n xs

  pub piece-written_above : (i n : ℕ) → at + length ys ≤ i → at ≤ length xs
      → piece i n (written at ys xs) ≡ piece i n xs
  piece-written_above i n h l = ap (take n) (drop-written_above i h l)

  -- the part below a place above what was written
  pub take-written_above : (n : ℕ) → at + length ys ≤ n → n ≤ length xs
      → take n (written at ys xs) ≡ written at ys (take n xs)
  take-written_above n h l =
      let m = n - (at + length ys) in
      let e : (at + length ys) + m ≡ n = omega (arith, h) in
      let b = length-append (take at xs) ys in
      let t = length-take-le at xs (omega (arith, h, l)) in
      let k : length (take at xs ++ ys) + m ≡ n = omega (arith, b, t, e) in
      ap (λ j. take j (written at ys xs)) (sym k) ∙ take-append-add (take at xs ++ ys) (drop (at + length ys) xs) m
      ∙ ap (λ q. (take at xs ++ ys) ++ q) (sym (drop-take (at + length ys) m xs))
      ∙ ap (λ j. (take at xs ++ ys) ++ drop (at + length ys) (take j xs)) e
      ∙ ap (λ q. (q ++ ys) ++ drop (at + length ys) (take n xs)) (sym (take-take at n xs (omega (arith, h))))

-- two writes, the second where the first ended
pub written-written : (at next : ℕ) (ys zs xs : List ℕ) → next ≡ at + length ys → at ≤ length xs
    → written next zs (written at ys xs) ≡ written at (ys ++ zs) xs
written-written at next ys zs xs e l =
    let a = length-append ys zs in
    let k : next + length zs ≡ at + length (ys ++ zs) = omega (arith, a, e) in
    ap (λ p. p ++ zs ++ drop (next + length zs) (written at ys xs)) (take-written_at at ys xs next e l)
    ∙ ap (λ q. ((take at xs ++ ys) ++ zs) ++ q) (drop-written_above at ys xs (next + length zs) (omega (arith, e)) l)
    ∙ ap (λ j. ((take at xs ++ ys) ++ zs) ++ drop j xs) k
    ∙ ap (λ p. p ++ drop (at + length (ys ++ zs)) xs) (append_assoc (take at xs) ys zs)

-- what stands there is written once more
pub written-same : (at n : ℕ) (ys xs : List ℕ) → at + n ≤ length xs → piece at n xs ≡ ys → written at ys xs ≡ xs
written-same at n ys xs h e =
    let d = length-drop at xs in
    let l = length-take-le n (drop at xs) (omega (arith, d, h)) in
    let k : length ys ≡ n = sym (ap length e) ∙ l in
    ap (λ j. take at xs ++ ys ++ drop (at + j) xs) k ∙ ap (λ q. take at xs ++ q ++ drop (at + n) xs) (sym e)
    ∙ ap (λ q. take at xs ++ piece at n xs ++ q) (sym (drop-drop n at xs))
    ∙ append_assoc (take at xs) (piece at n xs) (drop n (drop at xs))
    ∙ ap (λ q. take at xs ++ q) (take-append-drop n (drop at xs)) ∙ take-append-drop at xs
