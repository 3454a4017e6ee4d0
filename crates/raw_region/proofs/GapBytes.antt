-- The bytes and the windows of a list of gaps.
use Rattle.raw_region.proofs.Cited.{◌≡◌, ℕ, ◌+◌, ◌-◌, ◌<◌, ◌≤◌, zero, suc, List, [], ◌∷◌, ◌++◌, length, take, drop, get_or, replicate, refl}
use Rattle.raw_region.proofs.Cited.{sym, ap, ◌∙◌, subst, arith, append_assoc, length-append, take_at, drop_at, take-append-drop, add-zero}
use Rattle.raw_region.proofs.Cited.{length-replicate, length-drop, length-take-le, drop_more, written, bytes_of, IsLaid, Fits, front}
use Rattle.raw_region.proofs.Cited.{middle, back, before, Beside, joined, OwnBytes, Gap}
use denote.RawPtr.{Ptr}

pub bytes_of-append : (xs ys : List Gap) → bytes_of (xs ++ ys) ≡ bytes_of xs ++ bytes_of ys
bytes_of-append [] ys = refl
bytes_of-append (x ∷ xs) ys =
    let z = replicate x.len 0 in
    ap (λ l. z ++ (x.after.items ++ l)) (bytes_of-append xs ys)
    ∙ ap (λ l. z ++ l) (sym (append_assoc x.after.items (bytes_of xs) (bytes_of ys)))
    ∙ sym (append_assoc z (x.after.items ++ bytes_of xs) (bytes_of ys))

-- how many bytes a gap has
pub span : (g : Gap) (gs : List Gap) → length (bytes_of (g ∷ gs)) ≡ g.len + length g.after.items + length (bytes_of gs)
span g gs =
    let a = length-append (replicate g.len 0) (g.after.items ++ bytes_of gs) in
    let b = length-append g.after.items (bytes_of gs) in
    let c = length-replicate {A = ℕ} g.len 0 in
    omega (arith, a, b, c)

module _ (h : Ptr) where
  pub laid_front : (o : ℕ) (xs ys : List Gap) → IsLaid h o (xs ++ ys) → IsLaid h o xs
  laid_front o [] ys l = tt
  laid_front o (x ∷ xs) ys l = (l.0, l.1, l.2, laid_front (o + (x.len + length x.after.items)) xs ys l.3)

  pub laid_back : (o : ℕ) (xs ys : List Gap) → IsLaid h o (xs ++ ys) → IsLaid h (o + length (bytes_of xs)) ys
  laid_back o [] ys l = subst (λ n. IsLaid h n ys) (sym (add-zero o)) l
  laid_back o (x ∷ xs) ys l =
      let s = span x xs in
      let e : o + (x.len + length x.after.items) + length (bytes_of xs) ≡ o + length (bytes_of (x ∷ xs)) =
      omega (arith, s) in
      subst (λ n. IsLaid h n ys) e (laid_back (o + (x.len + length x.after.items)) xs ys l.3)

  pub laid_append : (o : ℕ) (xs ys : List Gap) → IsLaid h o xs → IsLaid h (o + length (bytes_of xs)) ys
      → IsLaid h o (xs ++ ys)
  laid_append o [] ys l m = subst (λ n. IsLaid h n ys) (add-zero o) m
  laid_append o (x ∷ xs) ys l m =
      let s = span x xs in
      let e : o + length (bytes_of (x ∷ xs)) ≡ o + (x.len + length x.after.items) + length (bytes_of xs) =
      omega (arith, s) in
      (l.0, l.1, l.2, laid_append (o + (x.len + length x.after.items)) xs ys l.3 (subst (λ n. IsLaid h n ys) e m))

  -- no gap ends past the bytes
  pub ends_within : (o : ℕ) (gs : List Gap) → IsLaid h o gs → (k : ℕ) (d : Gap) → k < length gs
      → (get_or gs k d).at + (get_or gs k d).len ≤ o + length (bytes_of gs)
  ends_within o [] l k d p = absurd (omega arith)
  ends_within o (g ∷ gs) l zero d p = let s = span g gs in let a = l.0 in omega (arith, s, a)
  ends_within o (g ∷ gs) l (suc k) d p = let s = span g gs in
      let r = ends_within (o + (g.len + length g.after.items)) gs l.3 k d (omega arith) in omega (arith, s, r)

-- a list round one of its elements
pub round : {X : Type 0} (xs : List X) (i : ℕ) (d : X) → i < length xs
    → xs ≡ take i xs ++ get_or xs i d ∷ drop (i + 1) xs
round xs i d h = sym (take-append-drop i xs) ∙ ap (λ l. take i xs ++ l) (drop_more xs i d h)

-- bytes that replace others between two lists
module _ (F M N E : List ℕ) (at : ℕ) (long : length F ≡ at) (same : length N ≡ length M) where
  pub written_is : written at N (F ++ (M ++ E)) ≡ F ++ (N ++ E)
  written_is =
      let e : at + length N ≡ length (F ++ M) = (let a = length-append F M in omega (arith, a, same, long)) in
      (λ j. take_at F (M ++ E) at long j ++ N ++ (ap (λ n. drop n (F ++ (M ++ E))) e
      ∙ ap (λ l. drop (length (F ++ M)) l) (sym (append_assoc F M E))
      ∙ drop_at (F ++ M) E (length (F ++ M)) refl) j)
      ∙ append_assoc F N E

-- a window that is taken out of the bytes after g
module _ (h : Ptr) (pre : List Gap) (g : Gap) (post : List Gap) (at len : ℕ) (laid : IsLaid h 0 (pre ++ g ∷ post))
    (fits : Fits at len g) where
  abbrev k : ℕ
  k = before at g

  abbrev L : List ℕ
  L = take k g.after.items

  abbrev M : List ℕ
  M = take len (drop k g.after.items)

  abbrev R : List ℕ
  R = drop len (drop k g.after.items)

  abbrev Z : List ℕ
  Z = replicate g.len 0

  abbrev F : List ℕ
  F = bytes_of pre ++ (Z ++ L)

  abbrev new : List Gap
  new = pre ++ front at g ∷ back at len g ∷ post

  here : IsLaid h (0 + length (bytes_of pre)) (g ∷ post)
  here = laid_back h 0 pre (g ∷ post) laid

  long_L : length L ≡ k
  long_L = length-take-le k g.after.items (omega (arith, fits.0, fits.1))

  long_rest : length (drop k g.after.items) ≡ length g.after.items - k
  long_rest = length-drop k g.after.items

  long_M : length M ≡ len
  long_M = let r = long_rest in length-take-le len (drop k g.after.items) (omega (arith, fits.0, fits.1, r))

  long_R : length R ≡ length g.after.items - k - len
  long_R = let r = long_rest in let s = length-drop len (drop k g.after.items) in omega (arith, r, s)

  long_F : length F ≡ at
  long_F =
      let a = length-append (bytes_of pre) (Z ++ L) in let b = length-append Z L in
      let c = length-replicate {A = ℕ} g.len 0 in let d = long_L in let e = here.0 in
      omega (arith, a, b, c, d, e, fits.0)

  items_are : g.after.items ≡ L ++ (M ++ R)
  items_are = sym (take-append-drop k g.after.items)
      ∙ ap (λ l. L ++ l) (sym (take-append-drop len (drop k g.after.items)))

  regroup : (P A B C : List ℕ) → P ++ (A ++ (B ++ C)) ≡ (P ++ (A ++ B)) ++ C
  regroup P A B C = ap (λ l. P ++ l) (sym (append_assoc A B C)) ∙ sym (append_assoc P (A ++ B) C)

  pub old_bytes : bytes_of (pre ++ g ∷ post) ≡ F ++ (M ++ (R ++ bytes_of post))
  old_bytes =
      bytes_of-append pre (g ∷ post)
      ∙ ap (λ l. bytes_of pre ++ (Z ++ l)) (ap (λ l. l ++ bytes_of post) items_are
      ∙ append_assoc L (M ++ R) (bytes_of post) ∙ ap (λ l. L ++ l) (append_assoc M R (bytes_of post)))
      ∙ regroup (bytes_of pre) Z L (M ++ (R ++ bytes_of post))

  pub new_bytes : bytes_of new ≡ F ++ (replicate len 0 ++ (R ++ bytes_of post))
  new_bytes = bytes_of-append pre (front at g ∷ back at len g ∷ post)
      ∙ regroup (bytes_of pre) Z L (replicate len 0 ++ (R ++ bytes_of post))

  pub opened_bytes : bytes_of new ≡ written at (replicate len 0) (bytes_of (pre ++ g ∷ post))
  opened_bytes = new_bytes
      ∙ sym (ap (written at (replicate len 0)) old_bytes
      ∙ written_is F M (replicate len 0) (R ++ bytes_of post) at long_F (length-replicate {A = ℕ} len 0 ∙ sym long_M))

  pub opened_length : length (bytes_of new) ≡ length (bytes_of (pre ++ g ∷ post))
  opened_length =
      let E = R ++ bytes_of post in let z = replicate len 0 in
      let a = ap length new_bytes ∙ length-append F (z ++ E) in let b = ap length old_bytes
      ∙ length-append F (M ++ E) in
      let c = length-append z E in let d = length-append M E in let e = length-replicate {A = ℕ} len 0 in
      let f = long_M in omega (arith, a, b, c, d, e, f)

  pub middle_bytes : take len (drop at (bytes_of (pre ++ g ∷ post))) ≡ M
  middle_bytes = ap (λ l. take len (drop at l)) old_bytes
      ∙ ap (take len) (drop_at F (M ++ (R ++ bytes_of post)) at long_F) ∙ take_at M (R ++ bytes_of post) len long_M

  pub middle_at : (middle at len g).at ≡ at
  middle_at = let e = here.0 in let f = here.2 in omega (arith, e, f, fits.0)

  pub middle_home : (middle at len g).home ≡ h
  middle_home = here.1

  pub opened_laid : IsLaid h 0 new
  opened_laid =
      let o : ℕ = 0 + length (bytes_of pre) in
      let l = long_L in let r = long_R in
      let e : at ≡ o + (g.len + length L) = (let a = here.0 in omega (arith, a, l, fits.0)) in
      let b : g.after.at + before at g + len ≡ o + (g.len + length L) + len = (let a = here.2 in omega (arith, a, l)) in
      let n : o + (g.len + length g.after.items) ≡ o + (g.len + length L) + (len + length R) =
      (let m = ap length items_are ∙ length-append L (M ++ R) in let m' = length-append M R in let m'' = long_M in
      omega (arith, m, m', m'')) in
      laid_append h 0 pre _ (laid_front h 0 pre (g ∷ post) laid) (
        here.0,
        here.1,
        here.2,
        (e, here.1, b, subst (λ n. IsLaid h n post) n here.3),
      )

-- bytes that come home between those after a and those after b
module _ (h : Ptr) (pre : List Gap) (a : Gap) (r : OwnBytes) (b : Gap) (post : List Gap)
    (laid : IsLaid h 0 (pre ++ a ∷ b ∷ post)) (long : length r.items ≡ b.len) where
  abbrev Q : List ℕ
  Q = b.after.items ++ bytes_of post

  abbrev G : List ℕ
  G = bytes_of pre ++ (replicate a.len 0 ++ a.after.items)

  abbrev made : List Gap
  made = pre ++ joined a r b ∷ post

  there : IsLaid h (0 + length (bytes_of pre)) (a ∷ b ∷ post)
  there = laid_back h 0 pre (a ∷ b ∷ post) laid

  together : (P A B C : List ℕ) → P ++ (A ++ (B ++ C)) ≡ (P ++ (A ++ B)) ++ C
  together P A B C = ap (λ l. P ++ l) (sym (append_assoc A B C)) ∙ sym (append_assoc P (A ++ B) C)

  pub out_bytes : bytes_of (pre ++ a ∷ b ∷ post) ≡ G ++ (replicate b.len 0 ++ Q)
  out_bytes = bytes_of-append pre (a ∷ b ∷ post)
      ∙ together (bytes_of pre) (replicate a.len 0) a.after.items (replicate b.len 0 ++ Q)

  pub home_bytes : bytes_of made ≡ G ++ (r.items ++ Q)
  home_bytes =
      bytes_of-append pre (joined a r b ∷ post)
      ∙ ap (λ l. bytes_of pre ++ (replicate a.len 0 ++ l))
      (append_assoc (a.after.items ++ r.items) b.after.items (bytes_of post) ∙ append_assoc a.after.items r.items Q)
      ∙ together (bytes_of pre) (replicate a.len 0) a.after.items (r.items ++ Q)

  long_G : length G ≡ b.at
  long_G =
      let x = length-append (bytes_of pre) (replicate a.len 0 ++ a.after.items) in
      let y = length-append (replicate a.len 0) a.after.items in let z = length-replicate {A = ℕ} a.len 0 in
      let e = there.3.0 in
      omega (arith, x, y, z, e)

  pub shut_bytes : bytes_of made ≡ written b.at r.items (bytes_of (pre ++ a ∷ b ∷ post))
  shut_bytes = home_bytes
      ∙ sym (ap (written b.at r.items) out_bytes
      ∙ written_is G (replicate b.len 0) r.items Q b.at long_G (long ∙ sym (length-replicate {A = ℕ} b.len 0)))

  pub shut_length : length (bytes_of made) ≡ length (bytes_of (pre ++ a ∷ b ∷ post))
  shut_length =
      let z = replicate b.len 0 in
      let x = ap length home_bytes ∙ length-append G (r.items ++ Q) in let y = ap length out_bytes
      ∙ length-append G (z ++ Q) in
      let c = length-append r.items Q in let d = length-append z Q in let e = length-replicate {A = ℕ} b.len 0 in
      omega (arith, x, y, c, d, e, long)

  pub is_beside : r.home ≡ h → r.at ≡ b.at → Beside a r b
  is_beside p q = (
    p ∙ sym there.1,
    there.3.1
        ∙ sym there.1,
    (let e = there.2 in let f = there.3.0 in omega (arith, e, f, q)),
    (let e = there.3.2 in let f = there.3.0 in omega (arith, e, f, q, long)),
  )

  pub shut_laid : IsLaid h 0 made
  shut_laid =
      let o : ℕ = 0 + length (bytes_of pre) in
      let n : o + (a.len + length a.after.items) + (b.len + length b.after.items)
      ≡ o + (a.len + length (a.after.items ++ r.items ++ b.after.items)) =
      (let x = length-append (a.after.items ++ r.items) b.after.items in let y = length-append a.after.items r.items in
      omega (arith, x, y, long)) in
      laid_append h 0 pre _ (laid_front h 0 pre (a ∷ b ∷ post) laid) (
        there.0,
        there.1,
        there.2,
        subst (λ n. IsLaid h n post) n there.3.3,
      )
