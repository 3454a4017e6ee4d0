-- The room after the last gap, and the bytes of it that are woken.
use Rattle.raw_region.proofs.Cited.{◌≡◌, ℕ, ◌+◌, ◌-◌, ◌≤◌, zero, suc, List, [], ◌∷◌, ◌++◌, length, take, drop, map, set, get_or, max}
use Rattle.raw_region.proofs.Cited.{replicate, refl, sym, ap, ◌∙◌, subst, arith, append_assoc, append-nil, length-append, length-drop}
use Rattle.raw_region.proofs.Cited.{length-replicate}
use Rattle.raw_region.proofs.Cited.{take-append-le, drop-append-le, replicate-append-replicate, vec_capacity, InOrder, Window, written}
use Rattle.raw_region.proofs.Cited.{bytes_of, windows_of, window_of, room_of, woken, awake, asleep, region_view, IsLaid, IsStart, IsRegion}
use Rattle.raw_region.proofs.Cited.{Inside}
use Rattle.raw_region.proofs.Cited.{Gap}
use denote.RawPtr.{Ptr, InBlock}
use Rattle.raw_region.proofs.GapBytes.{span}
use Rattle.raw_region.proofs.GapWindows.{windows_in_order}

-- the room after a list is that after its last part
pub room_past : (xs : List Gap) (y : Gap) (ys : List Gap) → room_of (xs ++ y ∷ ys) ≡ room_of (y ∷ ys)
room_past [] y ys = refl
room_past (x ∷ []) y ys = refl
room_past (x ∷ z ∷ xs) y ys = room_past (z ∷ xs) y ys

-- whatever the first entry has besides
pub room_kept : (a b : Gap) (ys : List Gap) → a.after.room ≡ b.after.room → room_of (a ∷ ys) ≡ room_of (b ∷ ys)
room_kept a b [] e = e
room_kept a b (y ∷ ys) e = refl

-- the last entry, whose bytes end at the place e, with room for m more
abbrev pub IsLast : Ptr → ℕ → ℕ → Gap → Type 0
IsLast h e m g = (g.after.home ≡ h) × (g.after.at ≡ g.at + g.len) × (g.at + g.len + length g.after.items ≡ e)
    × (g.after.room ≡ m)

pub last_entry : (h : Ptr) (o : ℕ) (gs : List Gap) (i : ℕ) (d : Gap) → IsLaid h o gs → i + 1 ≡ length gs
    → IsLast h (o + length (bytes_of gs)) (room_of gs) (get_or gs i d)
last_entry h o [] i d l e = absurd (omega arith)
last_entry h o (g ∷ []) zero d l e = let s = span g [] in let a = l.0 in let b = l.2 in
    (l.1, omega (arith, a, b), omega (arith, s, a), refl)
last_entry h o (g ∷ []) (suc i) d l e = absurd (omega arith)
last_entry h o (g ∷ k ∷ gs) zero d l e = absurd (omega arith)
last_entry h o (g ∷ k ∷ gs) (suc i) d l e =
    let s = span g (k ∷ gs) in
    let r = last_entry h (o + (g.len + length g.after.items)) (k ∷ gs) i d l.3 (omega arith) in
    (r.0, r.1, (let a = r.2 in omega (arith, a, s)), r.3)

-- bytes are woken of the last entry's room
pub last_woken : (n : ℕ) (gs : List Gap) (i : ℕ) (d : Gap) → i + 1 ≡ length gs
    → set gs i (woken n (get_or gs i d)) ≡ awake n gs
last_woken n [] i d e = absurd (omega arith)
last_woken n (g ∷ []) zero d e = refl
last_woken n (g ∷ []) (suc i) d e = absurd (omega arith)
last_woken n (g ∷ k ∷ gs) zero d e = absurd (omega arith)
last_woken n (g ∷ k ∷ gs) (suc i) d e = ap (λ (l : List Gap). g ∷ l) (last_woken n (k ∷ gs) i d (omega arith))

-- no byte is woken
pub none_awake : (gs : List Gap) → awake 0 gs ≡ gs
none_awake [] = refl
none_awake (g ∷ []) = let whole : g.after.room - 0 ≡ g.after.room = omega arith in
    λ i. record {
      at = g.at;
      len = g.len;
      after = record { home = g.after.home; at = g.after.at; items = append-nil g.after.items i; room = whole i };
    } ∷ []
none_awake (g ∷ k ∷ gs) = ap (λ (l : List Gap). g ∷ l) (none_awake (k ∷ gs))

module _ (n : ℕ) where
  pub awake_bytes : (gs : List Gap) → IsStart gs → bytes_of (awake n gs) ≡ bytes_of gs ++ replicate n 0
  awake_bytes [] s = absurd s
  awake_bytes (g ∷ gs) s = go g gs
    where
      go : (g : Gap) (gs : List Gap) → bytes_of (awake n (g ∷ gs)) ≡ bytes_of (g ∷ gs) ++ replicate n 0
      go g [] =
          let z = replicate g.len 0 in let xs = g.after.items in
          ap (λ l. z ++ l) (append-nil (xs ++ replicate n 0)) ∙ sym (append_assoc z xs (replicate n 0))
          ∙ ap (λ l. (z ++ l) ++ replicate n 0) (sym (append-nil xs))
      go g (k ∷ gs) =
          let z = replicate g.len 0 in let xs = g.after.items in let ys = bytes_of (k ∷ gs) in
          ap (λ l. z ++ (xs ++ l)) (go k gs) ∙ ap (λ l. z ++ l) (sym (append_assoc xs ys (replicate n 0)))
          ∙ sym (append_assoc z (xs ++ ys) (replicate n 0))

  seen : (gs : List Gap) → map window_of (awake n gs) ≡ map window_of gs
  seen [] = refl
  seen (g ∷ []) = refl
  seen (g ∷ k ∷ gs) = ap (λ (l : List Window). window_of g ∷ l) (seen (k ∷ gs))

  pub awake_windows : (gs : List Gap) → windows_of (awake n gs) ≡ windows_of gs
  awake_windows [] = refl
  awake_windows (g ∷ []) = refl
  awake_windows (g ∷ k ∷ gs) = seen (k ∷ gs)

  pub awake_laid : (h : Ptr) (o : ℕ) (gs : List Gap) → IsLaid h o gs → IsLaid h o (awake n gs)
  awake_laid h o [] l = l
  awake_laid h o (g ∷ []) l = (l.0, l.1, l.2, tt)
  awake_laid h o (g ∷ k ∷ gs) l =
      (l.0, l.1, l.2, awake_laid h (o + (g.len + length g.after.items)) (k ∷ gs) l.3)

  pub awake_first : (gs : List Gap) → IsStart gs → IsStart (awake n gs)
  awake_first [] s = s
  awake_first (g ∷ []) s = s
  awake_first (g ∷ k ∷ gs) s = s

  pub awake_room : (gs : List Gap) → room_of (awake n gs) ≡ room_of gs - n
  awake_room [] = omega arith
  awake_room (g ∷ []) = refl
  awake_room (g ∷ k ∷ gs) = past g k gs ∙ awake_room (k ∷ gs)
    where
      past : (g k : Gap) (gs : List Gap) → room_of (g ∷ awake n (k ∷ gs)) ≡ room_of (awake n (k ∷ gs))
      past g k [] = refl
      past g k (j ∷ gs) = refl

-- windows that end by a place end by each above it
order_up : (o n m : ℕ) (ws : List Window) → n ≤ m → InOrder o ws n → InOrder o ws m
order_up o n m [] h i = omega (arith, h, i)
order_up o n m (w ∷ ws) h i = (i.0, order_up (w.at + w.len) n m ws h i.1)

pub whole_order : (h : Ptr) (gs : List Gap) (zs : List ℕ) → IsLaid h 0 gs → IsStart gs
    → InOrder 0 (windows_of gs) (length (bytes_of gs ++ zs))
whole_order h gs zs l s = let a = length-append (bytes_of gs) zs in
    order_up 0 (length (bytes_of gs)) (length (bytes_of gs ++ zs)) (windows_of gs) (omega (arith, a))
    (windows_in_order h gs l s)

-- bytes that are written, or read, before the last ones of a list
module _ (at : ℕ) (xs zs : List ℕ) where
  pub written_before : (ys : List ℕ) → at + length ys ≤ length xs → written at ys (xs ++ zs) ≡ written at ys xs ++ zs
  written_before ys h =
      (λ i. take-append-le at xs zs (omega (arith, h)) i ++ ys ++ drop-append-le (at + length ys) xs zs h i)
      ∙ sym (append_assoc (take at xs ++ ys) (drop (at + length ys) xs) zs)

  pub read_before : (n : ℕ) → at + n ≤ length xs → take n (drop at (xs ++ zs)) ≡ take n (drop at xs)
  read_before n h =
      let d = length-drop at xs in
      ap (take n) (drop-append-le at xs zs (omega (arith, h)))
      ∙ take-append-le n (drop at xs) zs (omega (arith, d, h))

pub longer : (xs ys zs : List ℕ) → length xs ≡ length ys → length (xs ++ zs) ≡ length (ys ++ zs)
longer xs ys zs e = let a = length-append xs zs in let b = length-append ys zs in omega (arith, a, b, e)

-- the bytes below `end` are awake in s, which is r otherwise
pub record Wakes (r s : Inside) (end : ℕ) : Type 0 where
  pub region : IsRegion s
  pub view : region_view s ≡ region_view r
  pub enough : end ≤ length (bytes_of s.gaps.items)

pub region_long : (r : Inside) → IsRegion r → length (bytes_of r.gaps.items ++ asleep r) ≡ r.len
region_long r I =
    let a = length-append (bytes_of r.gaps.items) (asleep r) in
    let b = length-replicate {A = ℕ} (r.len - r.used) 0 in
    let w = I.whole in let t = I.rest in
    omega (arith, a, b, w, t)

pub wakes : (r : Inside) → IsRegion r → (end : ℕ) → end ≤ r.len → (s : Inside) → s.frame ≡ r.frame → s.home ≡ r.home
    → s.len ≡ r.len → s.used ≡ max r.used end → s.gaps.items ≡ awake (end - r.used) r.gaps.items
    → vec_capacity s.gaps ≡ vec_capacity r.gaps → Wakes r s end
wakes r I end inside s p q l u e k =
    let n : ℕ = end - r.used in
    let gs = r.gaps.items in
    let more = awake_bytes n gs I.first in
    let w = I.whole in
    let t = I.rest in
    let c = length-append (bytes_of gs) (replicate n 0) in
    let d = length-replicate {A = ℕ} n 0 in
    let long : length (bytes_of s.gaps.items) ≡ s.used =
    ap (λ x. length (bytes_of x)) e ∙ ap length more ∙ omega (arith, c, d, w, u) in
    let left : n + (s.len - s.used) ≡ r.len - r.used = omega (arith, l, u, t, inside) in
    let room = ap room_of e ∙ awake_room n gs in
    let bytes : bytes_of s.gaps.items ++ asleep s ≡ bytes_of gs ++ asleep r =
    ap (λ x. bytes_of x ++ asleep s) e ∙ ap (λ b. b ++ asleep s) more
    ∙ append_assoc (bytes_of gs) (replicate n 0) (asleep s)
    ∙ ap (λ b. bytes_of gs ++ b) (replicate-append-replicate n (s.len - s.used) 0 ∙ ap (λ j. replicate j 0) left) in
    record {
      region = record {
        start = ap (λ f. f.ptr) p ∙ I.start ∙ sym q;
        placed = subst InBlock (sym q) I.placed;
        whole = long;
        rest = omega (arith, room, t, l, u, inside);
        long = l ∙ I.long ∙ sym (ap (λ f. f.len) p);
        small = (let a = ap (λ f. f.len) p in let b = I.small in omega (arith, a, b));
        laid = subst (λ x. IsLaid s.home 0 x) (sym e) (subst (λ x. IsLaid x 0 (awake n gs)) (sym q)
            (awake_laid n r.home 0 gs I.laid));
        first = subst IsStart (sym e) (awake_first n gs I.first);
        room = (let b = I.room in omega (arith, k, b));
      };
      view = (λ i. record { home = q i; bytes = bytes i; out = (ap windows_of e ∙ awake_windows n gs) i });
      enough = omega (arith, long, u);
    }
