-- What the holes of a memory are, and what is found among them.
use Rattle.partitions.proofs.Cited.{◌≡◌, ℕ, ◌+◌, ◌-◌, ◌%◌, ◌≤◌, inl, Bool, true, false, cond, List, [], ◌∷◌, Option, Some, None, IfSome}
use Rattle.partitions.proofs.Cited.{refl, arith, All, ltb, leb-true, leb-false, le-ltb, All-cons, All-nil, All-head, All-tail}
use Rattle.partitions.proofs.Cited.{AllByRecursion, find, Window, InOrder, IsApart, Misses, window, apart-above, order-ends, holes}
use Rattle.partitions.proofs.Cited.{has_room, larger_hole, largest, HoldsZone}

-- bytes of the memory from a place on that are in no window
pub record IsHole (memory from : ℕ) (ws : List Window) (hole : Window) : Type 0 where
  pub above : from ≤ hole.at
  pub inside : hole.at + hole.len ≤ memory
  pub apart : IsApart hole.at hole.len ws
  pub place : hole.at % 16 ≡ 0
  pub whole : hole.len % 16 ≡ 0

less_even : (m n : ℕ) → m % 16 ≡ 0 → n % 16 ≡ 0 → n ≤ m → (m - n) % 16 ≡ 0
less_even m n a b le = omega (arith, a, b, le)

sum_even : (m n : ℕ) → m % 16 ≡ 0 → n % 16 ≡ 0 → (m + n) % 16 ≡ 0
sum_even m n a b = omega (arith, a, b)

each : {P Q : Window → Type 0} (hs : List Window) → ((h : Window) → P h → Q h) → AllByRecursion P hs
    → AllByRecursion Q hs
each [] f all = tt
each (h ∷ hs) f all = (f h all.0, each hs f all.1)

wider : (memory from : ℕ) (w : Window) (ws : List Window) → from ≤ w.at → (hole : Window)
    → IsHole memory (w.at + w.len) ws hole → IsHole memory from (w ∷ ws) hole
wider memory from w ws le hole is = record {
  above = (let a = is.above in omega (arith, a, le));
  inside = is.inside;
  apart = All-cons (Misses (window hole.at hole.len)) w ws (inl is.above) is.apart;
  place = is.place;
  whole = is.whole;
}

pub are_holes : (memory from : ℕ) (ws : List Window) → memory % 16 ≡ 0 → from % 16 ≡ 0 → All HoldsZone ws
    → InOrder from ws memory → AllByRecursion (IsHole memory from ws) (holes memory from ws)
are_holes memory from [] m f zones order = (
  record {
    above = omega arith;
    inside = omega (arith, order);
    apart = All-nil (Misses (window from (memory - from)));
    place = f;
    whole = less_even memory from m f order;
  },
  tt,
)
are_holes memory from (w ∷ ws) m f zones order =
    let zone = All-head HoldsZone w ws zones in
    let le = order.0 in
    let end = order-ends (w.at + w.len) memory ws order.1 in (
      record {
        above = omega arith;
        inside = omega (arith, le, end);
        apart = apart-above w.at memory from (w.at - from) (w ∷ ws) (omega arith, order.1) (omega (arith, le));
        place = f;
        whole = less_even w.at from zone.0 f le;
      },
      each (holes memory (w.at + w.len) ws) (wider memory from w ws le)
          (are_holes memory (w.at + w.len) ws m (sum_even w.at w.len zone.0 zone.1)
          (All-tail HoldsZone w ws zones) order.1),
    )

-- the lowest hole with room is one of them, and has room
found_go : (P : Window → Type 0) (n : ℕ) (h : Window) (rest : Option Window) (b : Bool) → has_room n h ≡ b → P h
    → IfSome rest (λ g. P g × (n ≤ g.len)) → IfSome (cond b (Some h) rest) (λ g. P g × (n ≤ g.len))
found_go P n h rest true e p later = (p, leb-true n h.len e)
found_go P n h rest false e p later = later

pub found : (P : Window → Type 0) (n : ℕ) (hs : List Window) → AllByRecursion P hs
    → IfSome (find (has_room n) hs) (λ h. P h × (n ≤ h.len))
found P n [] all = tt
found P n (h ∷ hs) all = found_go P n h (find (has_room n) hs) (has_room n h) refl all.0 (found P n hs all.1)

-- the largest hole is one of them
one_of : (P : Window → Type 0) (low high : Window) (b : Bool) → P low → P high → P (cond b high low)
one_of P low high true p q = q
one_of P low high false p q = p

pub greatest : (P : Window → Type 0) (h : Window) (hs : List Window) → AllByRecursion P (h ∷ hs) → P (largest (h ∷ hs))
greatest P h [] all = rw (le-ltb h.len 0 (omega arith)) all.0
greatest P h (g ∷ hs) all = one_of P h (largest (g ∷ hs)) (ltb h.len (largest (g ∷ hs)).len) all.0 (greatest P g hs all.1)

-- where no hole has room, the largest has fewer bytes
none_go : (n : ℕ) (h : Window) (above : Window) (rest : Option Window) (b : Bool) → has_room n h ≡ b
    → cond b (Some h) rest ≡ None → (rest ≡ None → above.len ≤ n) → (larger_hole h above).len ≤ n
none_go n h above rest true e none later = cc
none_go n h above rest false e none later =
    let less = leb-false n h.len e in
    one_of (λ w. w.len ≤ n) h above (ltb h.len above.len) (omega (arith, less)) (later none)

pub none_found : (n : ℕ) (hs : List Window) → find (has_room n) hs ≡ None → (largest hs).len ≤ n
none_found n [] none = omega arith
none_found n (h ∷ hs) none =
    none_go n h (largest hs) (find (has_room n) hs) (has_room n h) refl none (none_found n hs)
