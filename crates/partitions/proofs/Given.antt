-- What a granted window is.
use Rattle.partitions.proofs.Cited.{◌≡◌, ℕ, ◌+◌, ◌-◌, ◌%◌, ◌≤◌, ◌⊎◌, inl, inr, Bool, true, false, cond, List, [], ◌∷◌, Option, Some, None}
use Rattle.partitions.proofs.Cited.{IfSome, refl, sym, subst, arith, All, leb-true, All-weaker, IfSome_then, AllByRecursion, find}
use Rattle.partitions.proofs.Cited.{option_map, option_or, Window, InOrder, IsApart, window, holes, has_room, lower_end, largest, at_least}
use Rattle.partitions.proofs.Cited.{grant_of, grant, HoldsZone}
use Rattle.partitions.proofs.Holes.{IsHole, are_holes, found, greatest, none_found}

pub record IsGiven (memory minimum : ℕ) (ws : List Window) (w : Window) : Type 0 where
  pub inside : w.at + w.len ≤ memory
  pub apart : IsApart w.at w.len ws
  pub zone : HoldsZone w
  pub enough : minimum ≤ w.len

-- no more is given than is preferred
most_whole : (preferred minimum : ℕ) (hole : Window) (b : Bool) → hole.len ≤ preferred
    → IfSome (cond b (Some hole) None) (λ w. w.len ≤ preferred)
most_whole preferred minimum hole true le = le
most_whole preferred minimum hole false le = tt

most_go : (preferred minimum : ℕ) (o : Option Window) (hole : Window) → (o ≡ None → hole.len ≤ preferred)
    → IfSome (option_or (option_map (lower_end preferred) o) (at_least minimum hole)) (λ w. w.len ≤ preferred)
most_go preferred minimum None hole le = most_whole preferred minimum hole (has_room minimum hole) (le refl)
most_go preferred minimum (Some lowest) hole le = omega arith

pub given_most : (memory preferred minimum : ℕ) (ws : List Window) (o : Option Window)
    → o ≡ grant memory ws preferred minimum → IfSome o (λ w. w.len ≤ preferred)
given_most memory preferred minimum ws o is =
    let hs = holes memory 0 ws in
    subst (λ p. IfSome p (λ w. w.len ≤ preferred)) (sym is)
    (most_go preferred minimum (find (has_room preferred) hs) (largest hs) (none_found preferred hs))

-- what misses a hole misses its lower end
missed : (at m n : ℕ) (w : Window) → n ≤ m → (w.at + w.len ≤ at) ⊎ (at + m ≤ w.at)
    → (w.at + w.len ≤ at) ⊎ (at + n ≤ w.at)
missed at m n w le (inl x) = inl x
missed at m n w le (inr x) = inr (omega (arith, le, x))

shorter : (at m n : ℕ) (ws : List Window) → n ≤ m → IsApart at m ws → IsApart at n ws
shorter at m n ws le apart = All-weaker (λ w. (w.at + w.len ≤ at) ⊎ (at + m ≤ w.at))
    (λ w. (w.at + w.len ≤ at) ⊎ (at + n ≤ w.at)) (λ w. missed at m n w le) ws apart

module _ (memory preferred minimum : ℕ) (ws : List Window) (even : preferred % 16 ≡ 0) (least : 512 ≤ minimum)
    (ordered : minimum ≤ preferred) where
  given_lower : (hole : Window) → IsHole memory 0 ws hole × (preferred ≤ hole.len)
      → IsGiven memory minimum ws (lower_end preferred hole)
  given_lower hole is = let fits = is.1 in let inside = is.0.inside in record {
    inside = omega (arith, fits, inside);
    apart = shorter hole.at hole.len preferred ws fits is.0.apart;
    zone = (is.0.place, even, omega (arith, least, ordered));
    enough = ordered;
  }

  given_whole : (hole : Window) (b : Bool) → has_room minimum hole ≡ b → IsHole memory 0 ws hole
      → IfSome (cond b (Some hole) None) (IsGiven memory minimum ws)
  given_whole hole true e is = let fits = leb-true minimum hole.len e in record {
    inside = is.inside;
    apart = is.apart;
    zone = (is.place, is.whole, omega (arith, least, fits));
    enough = fits;
  }
  given_whole hole false e is = tt

  given_go : (o : Option Window) (h : Window) → IfSome o (λ g. IsHole memory 0 ws g × (preferred ≤ g.len))
      → IsHole memory 0 ws h → IfSome (option_or (option_map (lower_end preferred) o) (at_least minimum h)) (IsGiven memory minimum ws)
  given_go None h f g = given_whole h (has_room minimum h) refl g
  given_go (Some hole) h f g = given_lower hole f

  given_of : (h : Window) (hs : List Window) → AllByRecursion (IsHole memory 0 ws) (h ∷ hs)
      → IfSome (grant_of (h ∷ hs) preferred minimum) (IsGiven memory minimum ws)
  given_of h hs all = given_go (find (has_room preferred) (h ∷ hs)) (largest (h ∷ hs))
      (found (IsHole memory 0 ws) preferred (h ∷ hs) all) (greatest (IsHole memory 0 ws) h hs all)

  given_in : (vs : List Window) → AllByRecursion (IsHole memory 0 ws) (holes memory 0 vs)
      → IfSome (grant memory vs preferred minimum) (IsGiven memory minimum ws)
  given_in [] all = given_of (window 0 (memory - 0)) [] all
  given_in (v ∷ vs) all = given_of (window 0 (v.at - 0)) (holes memory (v.at + v.len) vs) all

  module _ (o : Option Window) (is : o ≡ grant memory ws preferred minimum) (whole : memory % 16 ≡ 0)
      (order : InOrder 0 ws memory) (zones : All HoldsZone ws) where
    given : IfSome o (IsGiven memory minimum ws)
    given = subst (λ p. IfSome p (IsGiven memory minimum ws)) (sym is)
        (given_in ws (are_holes memory 0 ws whole refl zones order))

    pub given_inside : IfSome o (λ w. w.at + w.len ≤ memory)
    given_inside = IfSome_then o given (λ w g. g.inside)

    pub given_apart : IfSome o (λ w. IsApart w.at w.len ws)
    given_apart = IfSome_then o given (λ w g. g.apart)

    pub given_zone : IfSome o HoldsZone
    given_zone = IfSome_then o given (λ w g. g.zone)

    pub given_enough : IfSome o (λ w. minimum ≤ w.len)
    given_enough = IfSome_then o given (λ w g. g.enough)
