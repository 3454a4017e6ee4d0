-- A block that is sought from an edge at or below it.
use Rattle.zone_marks.proofs.Cited.{◌≡◌, ℕ, ◌+◌, Bool, true, false, cond, ◌<◌, ◌≤◌, ◌^◌, Option, Some, None, List, [], ◌∷◌, ◌++◌, refl, sym}
use Rattle.zone_marks.proofs.Cited.{ap, ◌∙◌, subst, arith, none-some, same_Some, option_map, IfSome, Block, sizes, Spot, spot, raised}
use Rattle.zone_marks.proofs.Cited.{Apart, apart-tidied, apart-size, zone_in, IsSound, Begins, left_in, span-append, sizes-length, if-spot}
use Rattle.zone_marks.proofs.Cited.{the-if}
use Rattle.zone_marks.proofs.Marks.Lowering.{seen-from}

-- the lowest block that passes, seen with fewer blocks below it
pub record SeenFrom (test : Block → Bool) (below rest : List Block) (s : Spot) : Type 0 where
  pub there : Spot
  pub found : spot test rest ≡ Some there
  pub same : there.above ≡ s.above
  pub low : sizes below + sizes there.below ≡ sizes s.below

pub seen-past : (test : Block → Bool) (below rest : List Block) (s : Spot) → Apart (below ++ rest)
    → spot test (below ++ rest) ≡ Some s → sizes below ≤ sizes s.below → SeenFrom test below rest s
seen-past test [] rest s a e l = record { there = s; found = e; same = refl; low = omega arith }
seen-past test (b ∷ below) rest s a e l = cases (test b) (spot test (below ++ rest)) (seen-past test _ _) e
  where
    cases : (t : Bool) (o : Option Spot)
        → ((r : Spot) → Apart (below ++ rest) → o ≡ Some r → sizes below ≤ sizes r.below → SeenFrom test below rest r)
        → cond t (Some (record { below = []; here = b; above = below ++ rest })) (option_map (raised b) o) ≡ Some s
        → SeenFrom test (b ∷ below) rest s
    cases true o more q = absurd (omega (arith, apart-size, ap (λ (r : Spot). sizes r.below) (same_Some _ _ q), l))
    cases false None more q = absurd (none-some _ q)
    cases false (Some r) more q = grind arith

module _ (xs : List ℕ) (first unused : ℕ) (i : IsSound xs first unused) (p : ℕ) (b : Begins p 0 (zone_in xs)) where
  pub left-fits : sizes (left_in p xs) < 2 ^ 32
  left-fits = omega (arith, ap sizes (seen-from xs first unused i p b).is, span-append, sizes-length)

  -- what follows the block is what follows it in the zone
  pub sought : (test : Block → Bool) (P : List Block → Type 0)
      → IfSome (spot test (zone_in xs)) (λ (s : Spot). p ≤ sizes s.below)
      → IfSome (spot test (left_in p xs)) (λ (s : Spot). P s.above)
      → IfSome (spot test (zone_in xs)) (λ (s : Spot). P s.above)
  sought test P low found = if-spot _ (λ s. P s.above) (λ s e. let f = seen-from xs first unused i p b in
      let r = seen-past test _ (left_in p xs) s (subst Apart f.is (apart-tidied (zone_in xs) i.tidied))
      (sym (ap (spot test) f.is) ∙ e) (omega (
        arith,
        (the-if (spot test (zone_in xs)) (λ s. p ≤ sizes s.below) s e
            low),
      )) in
      subst P r.same (the-if (spot test (left_in p xs)) (λ s. P s.above) r.there r.found found))
