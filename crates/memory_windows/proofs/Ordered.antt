-- For callers: windows in order of place as one is put in or taken out, and how often each stands among them.
use Rattle.memory_windows.proofs.Cited.{◌≡◌, ℕ, ◌+◌, ◌<◌, ◌≤◌, ◌⊎◌, inl, inr, cond, ◌&&◌, zero, suc, Bool, true, false, not, List, [], ◌∷◌}
use Rattle.memory_windows.proofs.Cited.{length, get_or, refl, sym, ap, ◌∙◌, subst, arith, and_parts, eqb-true, eq-eqb, leb-true, leb-false}
use Rattle.memory_windows.proofs.Cited.{eqb, All-cons, All-nil, All-head, All-tail, Contains, insert, remove, prefix_len, position_or_len}
use Rattle.memory_windows.proofs.Cited.{InOrder, IsApart, window, ends_by, is_window, Misses, put_in, taken_out, Window, one, times}

up : (k : ℕ) → 1 + k ≡ suc k
up k = omega arith

-- a list with one window more, and one less, by its first window
put_in_go : (x v : Window) (ws : List Window) (b : Bool) (k : ℕ)
    → insert (v ∷ ws) (cond b (1 + k) 0) x ≡ cond b (v ∷ insert ws k x) (x ∷ v ∷ ws)
put_in_go x v ws true k = ap (λ j. insert (v ∷ ws) j x) (up k)
put_in_go x v ws false k = refl

pub put_in-cons : (w v : Window) (ws : List Window)
    → put_in w (v ∷ ws) ≡ cond (ends_by w.at v) (v ∷ put_in w ws) (w ∷ v ∷ ws)
put_in-cons w v ws = put_in_go w v ws (ends_by w.at v) (prefix_len (ends_by w.at) ws)

taken_out_go : (v : Window) (ws : List Window) (b : Bool) (k : ℕ)
    → remove (v ∷ ws) (cond (not b) (1 + k) 0) ≡ cond b ws (v ∷ remove ws k)
taken_out_go v ws true k = refl
taken_out_go v ws false k = ap (remove (v ∷ ws)) (up k)

pub taken_out-cons : (w v : Window) (ws : List Window)
    → taken_out w (v ∷ ws) ≡ cond (is_window w.at w.len v) ws (v ∷ taken_out w ws)
taken_out-cons w v ws = taken_out_go v ws (is_window w.at w.len v) (position_or_len (is_window w.at w.len) ws)

-- what is in a list
same_window : (w v : Window) → is_window w.at w.len v ≡ true → v ≡ w
same_window w v e = let b = and_parts (eqb v.at w.at) (eqb v.len w.len) e in
    λ j. record { at = eqb-true v.at w.at b.0 j; len = eqb-true v.len w.len b.1 j }

is_itself : (w : Window) → is_window w.at w.len w ≡ true
is_itself w = λ j. eq-eqb w.at w.at refl j && eq-eqb w.len w.len refl j

contains_at : (w v : Window) (ws : List Window) (i : ℕ) → i < length (v ∷ ws) → get_or (v ∷ ws) i w ≡ w
    → (v ≡ w) ⊎ Contains ws w
contains_at w v ws zero lt e = inl e
contains_at w v ws (suc i) lt e = inr (i, omega (arith, lt), e)

pub contained : (w v : Window) (ws : List Window) → Contains (v ∷ ws) w → (v ≡ w) ⊎ Contains ws w
contained w v ws c = contains_at w v ws c.0 c.1 c.2

pub contains-first : (w : Window) (ws : List Window) → Contains (w ∷ ws) w
contains-first w ws = (0, omega arith, refl)

pub contains-later : (w v : Window) (ws : List Window) → Contains ws w → Contains (v ∷ ws) w
contains-later w v ws c = (suc c.0, (let l = c.1 in omega (arith, l)), c.2)

pub contains-none : (w : Window) → Contains [] w → ⊥
contains-none w c = let l = c.1 in absurd (omega (arith, l))

-- how often a window is there
put_in_times : (at n : ℕ) (w v : Window) (ws : List Window) (b : Bool) (rest : List Window)
    → times at n rest ≡ one at n w + times at n ws
    → times at n (cond b (v ∷ rest) (w ∷ v ∷ ws)) ≡ one at n w + (one at n v + times at n ws)
put_in_times at n w v ws true rest e = omega (arith, e)
put_in_times at n w v ws false rest e = refl

pub times-put_in : (at n : ℕ) (w : Window) (ws : List Window)
    → times at n (put_in w ws) ≡ one at n w + times at n ws
times-put_in at n w [] = refl
times-put_in at n w (v ∷ ws) = ap (times at n) (put_in-cons w v ws)
    ∙ put_in_times at n w v ws (ends_by w.at v) (put_in w ws) (times-put_in at n w ws)

taken_out_times : (at n : ℕ) (w v : Window) (ws : List Window) (b : Bool) → is_window w.at w.len v ≡ b
    → (v ≡ w) ⊎ Contains ws w → (Contains ws w → one at n w + times at n (taken_out w ws) ≡ times at n ws)
    → one at n w + times at n (cond b ws (v ∷ taken_out w ws)) ≡ one at n v + times at n ws
taken_out_times at n w v ws true e c k = ap (λ (u : Window). one at n u + times at n ws) (sym (same_window w v e))
taken_out_times at n w v ws false e (inl s) k = absurd (let t = ap (is_window w.at w.len) s ∙ is_itself w in cc)
taken_out_times at n w v ws false e (inr c) k = let h = k c in omega (arith, h)

pub times-taken_out : (at n : ℕ) (w : Window) (ws : List Window) → Contains ws w
    → one at n w + times at n (taken_out w ws) ≡ times at n ws
times-taken_out at n w [] c = absurd (contains-none w c)
times-taken_out at n w (v ∷ ws) c =
    ap (λ (us : List Window). one at n w + times at n us) (taken_out-cons w v ws)
    ∙ taken_out_times at n w v ws (is_window w.at w.len v) refl (contained w v ws c) (times-taken_out at n w ws)

found_go : (w v : Window) (ws : List Window) (b : Bool) → is_window w.at w.len v ≡ b
    → 0 < (cond b 1 0) + times w.at w.len ws → (0 < times w.at w.len ws → Contains ws w) → Contains (v ∷ ws) w
found_go w v ws true e h k = subst (λ (u : Window). Contains (u ∷ ws) w) (sym (same_window w v e)) (contains-first w ws)
found_go w v ws false e h k = contains-later w v ws (k (omega (arith, h)))

-- a window that is counted is there
pub contains-counted : (w : Window) (ws : List Window) → 0 < times w.at w.len ws → Contains ws w
contains-counted w [] h = absurd (omega (arith, h))
contains-counted w (v ∷ ws) h = found_go w v ws (is_window w.at w.len v) refl h (contains-counted w ws)

pub one-itself : (w : Window) → one w.at w.len w ≡ 1
one-itself w = ap (λ b. cond {A = ℕ} b 1 0) (is_itself w)

-- where no window is counted there is none
pub none-counted : (ws : List Window) → ((at n : ℕ) → times at n ws ≡ 0) → ws ≡ []
none-counted [] h = refl
none-counted (w ∷ ws) h = absurd (let e = h w.at w.len in let o = one-itself w in omega (arith, e, o))

-- one window fewer
taken_out_length : (w v : Window) (ws : List Window) (b : Bool) → is_window w.at w.len v ≡ b
    → (v ≡ w) ⊎ Contains ws w → (Contains ws w → length (taken_out w ws) + 1 ≡ length ws)
    → length (cond b ws (v ∷ taken_out w ws)) + 1 ≡ length (v ∷ ws)
taken_out_length w v ws true e c k = omega arith
taken_out_length w v ws false e (inl s) k = absurd (let t = ap (is_window w.at w.len) s ∙ is_itself w in cc)
taken_out_length w v ws false e (inr c) k = let h = k c in omega (arith, h)

pub length-taken_out : (w : Window) (ws : List Window) → Contains ws w → length (taken_out w ws) + 1 ≡ length ws
length-taken_out w [] c = absurd (contains-none w c)
length-taken_out w (v ∷ ws) c = ap (λ (us : List Window). length us + 1) (taken_out-cons w v ws)
    ∙ taken_out_length w v ws (is_window w.at w.len v) refl (contained w v ws c) (length-taken_out w ws)

-- a place that counts on only where a test holds
pub below_cond : (b : Bool) (m n : ℕ) → m < n → cond b (1 + m) 0 < suc n
below_cond true m n h = omega arith
below_cond false m n h = omega arith

place_go : (w v : Window) (ws : List Window) → (v ≡ w) ⊎ Contains ws w
    → (Contains ws w → position_or_len (is_window w.at w.len) ws < length ws)
    → position_or_len (is_window w.at w.len) (v ∷ ws) < length (v ∷ ws)
place_go w v ws (inl s) k =
    let k = position_or_len (is_window w.at w.len) ws in
    let t = ap (λ (u : Window). cond {A = ℕ} (not (is_window w.at w.len u)) (1 + k) 0) s
    ∙ ap (λ b. cond {A = ℕ} (not b) (1 + k) 0) (is_itself w) in omega (arith, t)
place_go w v ws (inr c) k =
    below_cond (not (is_window w.at w.len v)) (position_or_len (is_window w.at w.len) ws) (length ws) (k c)

-- the place of a window that is there is an index
pub place_below : (w : Window) (ws : List Window) → Contains ws w
    → position_or_len (is_window w.at w.len) ws < length ws
place_below w [] c = absurd (contains-none w c)
place_below w (v ∷ ws) c = place_go w v ws (contained w v ws c) (place_below w ws)

-- windows in order end by the end
pub order-ends : (o n : ℕ) (ws : List Window) → InOrder o ws n → o ≤ n
order-ends o n [] h = h
order-ends o n (w ∷ ws) h = let e = order-ends (w.at + w.len) n ws h.1 in let f = h.0 in omega (arith, e, f)

-- they are in order from each lower place on
pub order-from : (o p n : ℕ) (ws : List Window) → p ≤ o → InOrder o ws n → InOrder p ws n
order-from o p n [] le h = omega (arith, le, h)
order-from o p n (w ∷ ws) le h = ((let f = h.0 in omega (arith, le, f)), h.1)

within_go : (o n : ℕ) (v : Window) (ws : List Window) (w : Window) → InOrder o (v ∷ ws) n → (v ≡ w) ⊎ Contains ws w
    → (Contains ws w → (v.at + v.len ≤ w.at) × (w.at + w.len ≤ n)) → (o ≤ w.at) × (w.at + w.len ≤ n)
within_go o n v ws w h (inl e) k =
    subst (λ (u : Window). (o ≤ u.at) × (u.at + u.len ≤ n)) e (h.0, order-ends (v.at + v.len) n ws h.1)
within_go o n v ws w h (inr c) k =
    let p = (k c).0 in let q = (k c).1 in let f = h.0 in (omega (arith, p, f), q)

-- each window begins behind the start and ends by the end
pub between : (o n : ℕ) (ws : List Window) (w : Window) → InOrder o ws n → Contains ws w
    → (o ≤ w.at) × (w.at + w.len ≤ n)
between o n [] w h c = absurd (contains-none w c)
between o n (v ∷ ws) w h c =
    within_go o n v ws w h (contained w v ws c) (λ d. between (v.at + v.len) n ws w h.1 d)

pub within : (o n : ℕ) (ws : List Window) (w : Window) → InOrder o ws n → Contains ws w → w.at + w.len ≤ n
within o n ws w h c = (between o n ws w h c).1

taken_out_order : (o n : ℕ) (w v : Window) (ws : List Window) (b : Bool) → InOrder o (v ∷ ws) n
    → InOrder (v.at + v.len) (taken_out w ws) n → InOrder o (cond b ws (v ∷ taken_out w ws)) n
taken_out_order o n w v ws true h k = order-from (v.at + v.len) o n ws (let f = h.0 in omega (arith, f)) h.1
taken_out_order o n w v ws false h k = (h.0, k)

-- windows in order stay so as one is taken out
pub order-taken_out : (o n : ℕ) (w : Window) (ws : List Window) → InOrder o ws n → InOrder o (taken_out w ws) n
order-taken_out o n w [] h = h
order-taken_out o n w (v ∷ ws) h =
    subst (λ us. InOrder o us n) (sym (taken_out-cons w v ws))
    (taken_out_order o n w v ws (is_window w.at w.len v) h (order-taken_out (v.at + v.len) n w ws h.1))

put_in_order : (o n : ℕ) (w v : Window) (ws : List Window) (b : Bool) → ends_by w.at v ≡ b → InOrder o (v ∷ ws) n
    → o ≤ w.at → Misses w v → (v.at + v.len ≤ w.at → InOrder (v.at + v.len) (put_in w ws) n)
    → InOrder o (cond b (v ∷ put_in w ws) (w ∷ v ∷ ws)) n
put_in_order o n w v ws true e h le m k = (h.0, k (leb-true (v.at + v.len) w.at e))
put_in_order o n w v ws false e h le (inl x) k = absurd (let f = leb-false (v.at + v.len) w.at e in omega (arith, f, x))
put_in_order o n w v ws false e h le (inr x) k = (le, (x, h.1))

-- windows in order stay so as one is put in that is apart from them
pub order-put_in : (o n : ℕ) (w : Window) (ws : List Window) → InOrder o ws n → o ≤ w.at → w.at + w.len ≤ n
    → IsApart w.at w.len ws → InOrder o (put_in w ws) n
order-put_in o n w [] h le end a = (le, end)
order-put_in o n w (v ∷ ws) h le end a =
    let P = Misses w in
    subst (λ us. InOrder o us n) (sym (put_in-cons w v ws))
    (put_in_order o n w v ws (ends_by w.at v) refl h le (All-head P v ws a)
    (λ x. order-put_in (v.at + v.len) n w ws h.1 x end (All-tail P v ws a)))

-- windows above a place are apart from one that ends by it
pub apart-above : (o n at len : ℕ) (ws : List Window) → InOrder o ws n → at + len ≤ o → IsApart at len ws
apart-above o n at len [] h le = All-nil (Misses (window at len))
apart-above o n at len (v ∷ ws) h le =
    let f = h.0 in
    All-cons (Misses (window at len)) v ws (inr (omega (arith, f, le)))
    (apart-above (v.at + v.len) n at len ws h.1 (omega (arith, f, le)))

taken_out_apart : (o n : ℕ) (w v : Window) (ws : List Window) (b : Bool) → is_window w.at w.len v ≡ b
    → InOrder o (v ∷ ws) n → (v ≡ w) ⊎ Contains ws w → (Contains ws w → IsApart w.at w.len (taken_out w ws))
    → IsApart w.at w.len (cond b ws (v ∷ taken_out w ws))
taken_out_apart o n w v ws true e h c k =
    subst (λ (u : Window). IsApart u.at u.len ws) (same_window w v e)
    (apart-above (v.at + v.len) n v.at v.len ws h.1 (omega arith))
taken_out_apart o n w v ws false e h (inl s) k = absurd (let t = ap (is_window w.at w.len) s ∙ is_itself w in cc)
taken_out_apart o n w v ws false e h (inr c) k =
    All-cons (Misses w) v (taken_out w ws) (inl (between (v.at + v.len) n ws w h.1 c).0) (k c)

-- a window is apart from all others of a list in order
pub apart-taken_out : (o n : ℕ) (w : Window) (ws : List Window) → InOrder o ws n → Contains ws w
    → IsApart w.at w.len (taken_out w ws)
apart-taken_out o n w [] h c = absurd (contains-none w c)
apart-taken_out o n w (v ∷ ws) h c =
    subst (λ us. IsApart w.at w.len us) (sym (taken_out-cons w v ws))
    (taken_out_apart o n w v ws (is_window w.at w.len v) refl h (contained w v ws c)
    (apart-taken_out (v.at + v.len) n w ws h.1))
