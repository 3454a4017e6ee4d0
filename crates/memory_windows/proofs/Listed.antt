-- For callers: what holds of the windows once one is put in or taken out.
use Rattle.memory_windows.proofs.Cited.{◌≡◌, ℕ, ◌+◌, ◌<◌, ◌≤◌, ◌⊎◌, inl, inr, suc, Bool, true, false, ◌&&◌, not, List, [], ◌∷◌, ◌++◌}
use Rattle.memory_windows.proofs.Cited.{length, take, drop, get_or, refl, sym, ap, ◌∙◌, subst, arith, All, take-append-drop, length-append}
use Rattle.memory_windows.proofs.Cited.{length-take-le, length-drop, drop_more, take_at, drop_at, length_push, get_or_append_left}
use Rattle.memory_windows.proofs.Cited.{get_or-take, get_or_at, All-append, All-cons, All-take, All-drop, Contains-append_left}
use Rattle.memory_windows.proofs.Cited.{Contains-append_right, Contains-append_cases, prefix_len-le-length, prefix_len_stops}
use Rattle.memory_windows.proofs.Cited.{prefix_len_passes, position_or_len_is, and_parts, eqb-true, eq-eqb, leb-true, not-false, eqb, leb}
use Rattle.memory_windows.proofs.Cited.{remove, prefix_len, position_or_len, Contains, window, with_window, without_window, Window}
use Rattle.std.proofs.lemmas.List.{append_assoc}

module _ (at n : ℕ) (ws : List Window) where
  abbrev test : Window → Bool
  test w = eqb w.at at && eqb w.len n

  low : prefix_len (λ w. leb (w.at + w.len) at) ws ≤ length ws
  low = prefix_len-le-length _ ws

  pub length-with_window : length (with_window at n ws) ≡ length ws + 1
  length-with_window =
      let k = prefix_len (λ w. leb (w.at + w.len) at) ws in
      let a = length-append (take k ws) (window at n ∷ drop k ws) in let b = length-take-le k ws low in
      let c = length-drop k ws in let d = low in omega (arith, a, b, c, d)

  -- a fact of each window: as IsApart, or that it lies in the region
  pub All-with_window : (P : Window → Type 0) → P (window at n) → All P ws → All P (with_window at n ws)
  All-with_window P p all =
      let k = prefix_len (λ w. leb (w.at + w.len) at) ws in
      All-append P (take k ws) (window at n ∷ drop k ws) (All-take P k ws all)
      (All-cons P (window at n) (drop k ws) p (All-drop P k ws all))

  pub All-without_window : (P : Window → Type 0) → All P ws → All P (without_window at n ws)
  All-without_window P all =
      let k = position_or_len test ws in
      All-append P (take k ws) (drop (suc k) ws) (All-take P k ws all) (All-drop P (suc k) ws all)

  pub Contains-with_window_new : Contains (with_window at n ws) (window at n)
  Contains-with_window_new = let k = prefix_len (λ w. leb (w.at + w.len) at) ws in
      Contains-append_right (take k ws) (window at n ∷ drop k ws) (window at n) (0, omega arith, refl)

  rest : (w : Window) (xs : List Window) (x : Window) → Contains xs x → Contains (w ∷ xs) x
  rest w xs x c = Contains-append_right (w ∷ []) xs x c

  parted : (k : ℕ) (w : Window) → Contains ws w → Contains (take k ws) w ⊎ Contains (drop k ws) w
  parted k w c = Contains-append_cases (take k ws) (drop k ws) w
      (subst (λ l. Contains l w) (sym (take-append-drop k ws)) c)

  either : {A B C : Type 0} → A ⊎ B → (A → C) → (B → C) → C
  either (inl a) f g = f a
  either (inr b) f g = g b

  pub Contains-with_window_old : (w : Window) → Contains ws w → Contains (with_window at n ws) w
  Contains-with_window_old w c =
      let k = prefix_len (λ w. leb (w.at + w.len) at) ws in
      either (parted k w c) (λ p. Contains-append_left (take k ws) (window at n ∷ drop k ws) w p) (λ p.
      Contains-append_right (take k ws) (window at n ∷ drop k ws) w (rest (window at n) (drop k ws) w p))

  same : (x : Window) → test x ≡ true → x ≡ window at n
  same x e = let b = and_parts (eqb x.at at) (eqb x.len n) e in
      λ j. record { at = eqb-true x.at at b.0 j; len = eqb-true x.len n b.1 j }

  single : (x w : Window) → Contains (x ∷ []) w → x ≡ w
  single x w c = let z : c.0 ≡ 0 = (let l = c.1 in omega (arith, l)) in ap (λ j. get_or (x ∷ []) j w) (sym z) ∙ c.2

  -- another window stays
  pub Contains-without_window : (w : Window) → ¬ (w ≡ window at n) → Contains ws w → Contains (without_window at n ws) w
  Contains-without_window w other c =
      let k = position_or_len test ws in
      either (parted k w c) (λ p. Contains-append_left (take k ws) (drop (suc k) ws) w p) (λ p.
      let d = length-drop k ws in let l = p.1 in
      let h : k < length ws = omega (arith, d, l) in
      let x = get_or ws k w in
      let e : k + 1 ≡ suc k = omega arith in
      let is : drop k ws ≡ x ∷ drop (suc k) ws = drop_more ws k w h ∙ ap (λ m. x ∷ drop m ws) e in
      either (Contains-append_cases (x ∷ []) (drop (suc k) ws) w (subst (λ l. Contains l w) is p))
      (λ q. absurd (other (sym (single x w q)
      ∙ same x (not-false (test x) (prefix_len_stops (λ y. not (test y)) ws w h)))))
      (λ q. Contains-append_right (take k ws) (drop (suc k) ws) w q))

  -- a window that goes out and comes home leaves the list as it was
  pub without_window-with_window : 0 < n → without_window at n (with_window at n ws) ≡ ws
  without_window-with_window some =
      let k = prefix_len (λ w. leb (w.at + w.len) at) ws in
      let t : length (take k ws) ≡ k = length-take-le k ws low in
      let more = length-with_window in
      let l = low in
      let at_k : position_or_len test (with_window at n ws) ≡ k =
      position_or_len_is test (with_window at n ws) k (window at n) (omega (arith, l, more))
      (λ m lt. not_it (get_or (with_window at n ws) m (window at n)) some
      (ap (λ w. leb (w.at + w.len) at)
      (get_or_append_left (take k ws) (window at n ∷ drop k ws) (window at n) m (omega (arith, lt, t))
      ∙ get_or-take k ws m (window at n) lt) ∙ prefix_len_passes _ ws m (window at n) lt))
      (λ _. ap test (get_or_at (take k ws) (window at n) (drop k ws) (window at n) k t)
      ∙ (λ j. eq-eqb at at refl j && eq-eqb n n refl j)) in
      ap (remove (with_window at n ws)) at_k
      ∙ (λ j. take_at (take k ws) (window at n ∷ drop k ws) k t j ++ past k t j)
      ∙ take-append-drop k ws
    where
      not_it : (w : Window) → 0 < n → leb (w.at + w.len) at ≡ true → test w ≡ false
      not_it w some e = go (test w) refl
        where
          go : (b : Bool) → test w ≡ b → test w ≡ false
          go false q = q
          go true q = let f = leb-true (w.at + w.len) at e in let z = and_parts (eqb w.at at) (eqb w.len n) q in
              let x = eqb-true w.at at z.0 in let y = eqb-true w.len n z.1 in absurd (omega (arith, f, x, y, some))

      past : (k : ℕ) → length (take k ws) ≡ k → drop (suc k) (take k ws ++ window at n ∷ drop k ws) ≡ drop k ws
      past k t =
          let e : take k ws ++ window at n ∷ drop k ws ≡ (take k ws ++ window at n ∷ []) ++ drop k ws =
          sym (append_assoc (take k ws) (window at n ∷ []) (drop k ws)) in
          let m = length_push (take k ws) (window at n) in
          ap (drop (suc k)) e ∙ drop_at (take k ws ++ window at n ∷ []) (drop k ws) (suc k) (omega (arith, m, t))
