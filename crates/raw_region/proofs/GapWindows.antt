-- The windows of a list of gaps, where one is put in or taken out.
use Rattle.raw_region.proofs.Cited.{◌≡◌, ℕ, ◌+◌, ◌^◌, ◌<◌, ◌≤◌, ◌⊎◌, inl, inr, zero, suc, Bool, true, false, not, ◌&&◌, cond, List, [], ◌∷◌}
use Rattle.raw_region.proofs.Cited.{◌++◌, length, take, drop, map, get_or, refl, sym, ap, ◌∙◌, subst, arith, zero-add, get_or-map}
use Rattle.raw_region.proofs.Cited.{take_more, map-append, length-map, drop-map, take-map, and_parts, leb-true, leb-false, eqb-true, eq-eqb}
use Rattle.raw_region.proofs.Cited.{not-false, All-head, All-tail, prefix_len_stops, prefix_len, position_or_len, insert, remove, Contains}
use Rattle.raw_region.proofs.Cited.{prefix_len-map, below_cond, order-from, window, is_window, IsApart, InOrder, bytes_of, windows_of}
use Rattle.raw_region.proofs.Cited.{window_of, gap_ends_by, gap_is, IsLaid, IsStart, Fits, front, back, joined, EndsFit, OwnBytes, Gap}
use Rattle.std.proofs.lemmas.List.{append_assoc}
use denote.RawPtr.{Ptr}
use Rattle.raw_region.proofs.GapBytes.{ends_within, span}

-- `drop (n + 1)`, and what else computes at a `suc`
one : (n : ℕ) → n + 1 ≡ suc n
one n = omega arith

-- the windows once one is put in after the i-th gap
pub opened_windows : (at len : ℕ) (gs : List Gap) (i : ℕ) (d : Gap) → i < length gs
    → windows_of (take i gs ++ front at (get_or gs i d) ∷ back at len (get_or gs i d) ∷ drop (i + 1) gs)
    ≡ insert (windows_of gs) i (window at len)
opened_windows at len [] i d h = absurd (omega arith)
opened_windows at len (s ∷ ts) zero d h = refl
opened_windows at len (s ∷ ts) (suc i) d h =
    let ws = map window_of ts in
    let g = get_or ts i d in
    let low : i < length ts = omega arith in
    let e : suc i + 1 ≡ suc (i + 1) = omega arith in
    let long : length ws ≡ length ts = length-map ts window_of in
    ap (λ k. map window_of (take i ts ++ front at g ∷ back at len g ∷ drop k (s ∷ ts))) e
    ∙ map-append window_of (take i ts) _
    ∙ (λ j. sym (take-map window_of i ts) j ++ sym (get_or-map window_of ts i d) j ∷ window at len
    ∷ sym (drop-map window_of (i + 1) ts) j)
    ∙ sym (append_assoc (take i ws) (get_or ws i (window_of d) ∷ []) (window at len ∷ drop (i + 1) ws))
    ∙ ap (λ l. l ++ window at len ∷ drop (i + 1) ws) (sym (take_more ws i (window_of d) (omega (arith, long))))
    ∙ ap (λ k. take k ws ++ window at len ∷ drop k ws) (one i)

-- the windows once the one at i + 1 goes
pub shut_windows : (gs : List Gap) (i : ℕ) (r : OwnBytes) (d : Gap) → i + 1 < length gs
    → windows_of (take i gs ++ joined (get_or gs i d) r (get_or gs (i + 1) d) ∷ drop (i + 1 + 1) gs)
    ≡ remove (windows_of gs) i
shut_windows [] i r d h = absurd (omega arith)
shut_windows (s ∷ []) i r d h = absurd (omega arith)
shut_windows (s ∷ t ∷ ts) zero r d h = refl
shut_windows (s ∷ t ∷ ts) (suc i) r d h =
    let us = t ∷ ts in
    let ws = map window_of us in
    let g = get_or us i d in
    let b = get_or (s ∷ us) (suc i + 1) d in
    let e : suc i + 1 + 1 ≡ suc (i + 1 + 1) = omega arith in
    let long : length ws ≡ length us = length-map us window_of in
    ap (λ k. map window_of (take i us ++ joined g r b ∷ drop k (s ∷ us))) e
    ∙ map-append window_of (take i us) _
    ∙ (λ j. sym (take-map window_of i us) j ++ sym (get_or-map window_of us i d) j
    ∷ sym (drop-map window_of (i + 1 + 1) us) j)
    ∙ sym (append_assoc (take i ws) (get_or ws i (window_of d) ∷ []) (drop (i + 1 + 1) ws))
    ∙ ap (λ l. l ++ drop (i + 1 + 1) ws) (sym (take_more ws i (window_of d) (omega (arith, long))))
    ∙ (let two : i + 1 + 1 ≡ suc (suc i) = omega arith in λ j. take (one i j) ws ++ drop (two j) ws)

-- ---- a window that meets none lies in the bytes after the gap before it
choose : (at len : ℕ) (s t : Gap) (ts : List Gap) (n : ℕ) (d : Gap) (b : Bool)
    → (b ≡ true → Fits at len (get_or (t ∷ ts) n d)) → (b ≡ false → Fits at len s)
    → Fits at len (get_or (s ∷ t ∷ ts) (cond b (1 + n) 0) d)
choose at len s t ts n d true f g = let e : 1 + n ≡ suc n = omega arith in
    subst (λ k. Fits at len (get_or (s ∷ t ∷ ts) k d)) (sym e) (f refl)
choose at len s t ts n d false f g = g refl

module _ (h : Ptr) (at len : ℕ) (small : at + len < 2 ^ 64) (some : 0 < len) where
  fits_after : (o : ℕ) (s : Gap) (ts : List Gap) → IsLaid h o (s ∷ ts) → s.at + s.len ≤ at
      → at + len ≤ o + length (bytes_of (s ∷ ts)) → IsApart at len (map window_of ts) → (d : Gap)
      → Fits at len (get_or (s ∷ ts) (prefix_len (gap_ends_by at) ts) d)
  fits_after o s [] l low high apart d = let e = span s [] in let a = l.0 in (low, omega (arith, e, a, high), small)
  fits_after o s (t ∷ ts) l low high apart d =
      let e = span s (t ∷ ts) in
      let a = l.0 in
      let b = l.3.0 in
      let first = All-head (λ w. (w.at + w.len ≤ at) ⊎ (at + len ≤ w.at)) (window_of t) (map window_of ts) apart in
      let rest = All-tail (λ w. (w.at + w.len ≤ at) ⊎ (at + len ≤ w.at)) (window_of t) (map window_of ts) apart in
      choose at len s t ts (prefix_len (gap_ends_by at) ts) d (gap_ends_by at t)
      (λ yes. fits_after (o + (s.len + length s.after.items)) t ts l.3 (leb-true (t.at + t.len) at yes)
      (omega (arith, e, high)) rest d)
      (λ no. let f = leb-false (t.at + t.len) at no in
      (low, either first (λ p. omega (arith, p, f)) (λ p. omega (arith, p, a, b)), small))
    where
      either : {A B C : Type 0} → A ⊎ B → (A → C) → (B → C) → C
      either (inl a) f g = f a
      either (inr b) f g = g b

  pub fits_in : (gs : List Gap) → IsLaid h 0 gs → IsStart gs → at + len ≤ length (bytes_of gs)
      → IsApart at len (windows_of gs) → (d : Gap) → Fits at len (get_or gs (prefix_len (gap_ends_by at) (drop 1 gs)) d)
  fits_in [] l start high apart d = absurd start
  fits_in (s ∷ ts) l start high apart d = let a = l.0 in
      fits_after 0 s ts l (omega (arith, a, start)) (omega (arith, high)) apart d

-- ---- no sum overflows
pub ends_fit : (h : Ptr) (gs : List Gap) → IsLaid h 0 gs → length (bytes_of gs) < 2 ^ 64 → EndsFit gs
ends_fit h gs l small k d p = let e = ends_within h 0 gs l k d p in omega (arith, e, small)

-- ---- a window that is out is found
pub position_below : {X : Type 0} (p : X → Bool) (xs : List X) (k : ℕ) (d : X) → k < length xs
    → p (get_or xs k d) ≡ true → position_or_len p xs < length xs
position_below p [] k d h e = absurd (omega arith)
position_below p (x ∷ xs) zero d h e = let n : position_or_len p (x ∷ xs) ≡ 0 =
    ap (λ b. cond (not b) (1 + position_or_len p xs) 0) e in omega (arith, n)
position_below p (x ∷ xs) (suc k) d h e = below_cond (not (p x)) (position_or_len p xs) (length xs)
    (position_below p xs k d (omega arith) e)

-- the gap at that place is the window
pub found : (at len : ℕ) (ts : List Gap) (d : Gap) → position_or_len (gap_is at len) ts < length ts
    → ((get_or ts (position_or_len (gap_is at len) ts) d).at ≡ at)
    × ((get_or ts (position_or_len (gap_is at len) ts) d).len ≡ len)
found at len ts d h =
    let g = get_or ts (position_or_len (gap_is at len) ts) d in
    let yes = and_parts _ _ (not-false _ (prefix_len_stops (λ x. not (gap_is at len x)) ts d h)) in
    (eqb-true g.at at yes.0, eqb-true g.len len yes.1)

pub is_out : (at len : ℕ) (gs : List Gap) → Contains (windows_of gs) (window at len)
    → position_or_len (gap_is at len) (drop 1 gs) < length (drop 1 gs)
is_out at len gs c =
    let ws = windows_of gs in
    let test = is_window at len in
    let yes : test (get_or ws c.0 (window at len)) ≡ true = ap test c.2
    ∙ (λ i. eq-eqb at at refl i && eq-eqb len len refl i) in
    let low = position_below test ws c.0 (window at len) c.1 yes in
    let same = prefix_len-map window_of (λ w. not (test w)) (drop 1 gs) in
    let long = length-map (drop 1 gs) window_of in
    omega (arith, low, same, long)

-- ---- the windows lie in order
in_order : (h : Ptr) (o : ℕ) (gs : List Gap) (n : ℕ) → IsLaid h o gs → o + length (bytes_of gs) ≡ n
    → InOrder o (map window_of gs) n
in_order h o [] n l e = omega (arith, e)
in_order h o (g ∷ gs) n l e =
    let s = span g gs in
    let a = l.0 in (
      omega (arith, a),
      order-from (o + (g.len + length g.after.items)) (g.at + g.len) n (map window_of gs) (omega (arith, a))
          (in_order h (o + (g.len + length g.after.items)) gs n l.3 (omega (arith, s, e))),
    )

pub windows_in_order : (h : Ptr) (gs : List Gap) → IsLaid h 0 gs → IsStart gs
    → InOrder 0 (windows_of gs) (length (bytes_of gs))
windows_in_order h [] l s = absurd s
windows_in_order h (g ∷ gs) l s = order-from (g.at + g.len) 0 _ (map window_of gs) (omega arith)
    (in_order h 0 (g ∷ gs) _ l (zero-add _)).1
