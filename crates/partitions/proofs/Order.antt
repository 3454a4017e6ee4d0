-- Windows in order.
use Rattle.partitions.proofs.Cited.{◌≡◌, ℕ, ◌+◌, ◌<◌, ◌≤◌, List, [], ◌∷◌, length, drop, get_or, subst, sym, arith, suc, drop-cons}
use Rattle.partitions.proofs.Cited.{All-from_recursion, AllPairs-cons, AllPairs, AllByRecursion, Contains, Window, InOrder, IsApart, put_in}
use Rattle.partitions.proofs.Cited.{taken_out, order-ends, order-put_in, order-taken_out, apart-taken_out, without_window-with_window}
use Rattle.partitions.proofs.Cited.{All-with_window, All-without_window, Granted, HoldsZone, granted-order, LieInside, NeverOverlap}
use Rattle.std.specs.List.{All}

-- each window of a list in order ends by the end
pub window_ends : (ws : List Window) (i : ℕ) (d : Window) (from memory : ℕ) → i < length ws
    → InOrder from (drop i ws) memory → (get_or ws i d).at + (get_or ws i d).len ≤ memory
window_ends ws i d from memory lt order =
    let w = get_or ws i d in
    let here = subst (λ vs. InOrder from vs memory) (drop-cons ws i d lt) order in
    order-ends (w.at + w.len) memory (drop (suc i) ws) here.1

ends : (o n : ℕ) (ws : List Window) → InOrder o ws n → AllByRecursion (λ w. w.at + w.len ≤ n) ws
ends o n [] h = tt
ends o n (w ∷ ws) h = (order-ends (w.at + w.len) n ws h.1, ends (w.at + w.len) n ws h.1)

behind : (m o n : ℕ) (ws : List Window) → m ≤ o → InOrder o ws n → AllByRecursion (λ w. m ≤ w.at) ws
behind m o n [] le h = tt
behind m o n (w ∷ ws) le h = let f = h.0 in
    (omega (arith, le, f), behind m (w.at + w.len) n ws (omega (arith, le, f)) h.1)

apart_pairs : (o n : ℕ) (ws : List Window) → InOrder o ws n → AllPairs (λ v w. v.at + v.len ≤ w.at) ws
apart_pairs o n [] h = λ i j d lt none. absurd (omega (arith, none))
apart_pairs o n (w ∷ ws) h = AllPairs-cons (λ v u. v.at + v.len ≤ u.at) w ws
    (All-from_recursion _ ws (behind (w.at + w.len) (w.at + w.len) n ws (omega arith) h.1))
    (apart_pairs (w.at + w.len) n ws h.1)

pub lie_inside : (g : Granted) → LieInside g
lie_inside g = All-from_recursion _ g.windows (ends 0 g.memory g.windows (granted-order g))

pub never_overlap : (g : Granted) → NeverOverlap g
never_overlap g = apart_pairs 0 g.memory g.windows (granted-order g)

pub given_back : (w : Window) (ws : List Window) → 0 < w.len → taken_out w (put_in w ws) ≡ ws
given_back w ws some = without_window-with_window w.at w.len ws some

-- a window that is granted, and one that is given back, leave the windows in order
module _ (w : Window) (memory : ℕ) (before after : List Window) where
  pub order_granted : after ≡ put_in w before → w.at + w.len ≤ memory → IsApart w.at w.len before
      → InOrder 0 before memory → InOrder 0 after memory
  order_granted is end apart order =
      subst (λ ws. InOrder 0 ws memory) (sym is) (order-put_in 0 memory w before order (omega arith) end apart)

  pub zones_granted : after ≡ put_in w before → HoldsZone w → All HoldsZone before → All HoldsZone after
  zones_granted is zone zones =
      subst (All HoldsZone) (sym is) (All-with_window w.at w.len before HoldsZone zone zones)

  pub order_given_back : after ≡ taken_out w before → InOrder 0 before memory → InOrder 0 after memory
  order_given_back is order = subst (λ ws. InOrder 0 ws memory) (sym is) (order-taken_out 0 memory w before order)

  pub zones_given_back : after ≡ taken_out w before → All HoldsZone before → All HoldsZone after
  zones_given_back is zones =
      subst (All HoldsZone) (sym is) (All-without_window w.at w.len before HoldsZone zones)

  pub free_given_back : after ≡ taken_out w before → InOrder 0 before memory → Contains before w
      → IsApart w.at w.len after
  free_given_back is order there =
      subst (λ ws. IsApart w.at w.len ws) (sym is) (apart-taken_out 0 memory w before order there)
