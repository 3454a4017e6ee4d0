-- The block that begins at an edge of a RawZone's blocks, if one does.
use Rattle.zone_bytes.proofs.Cited.{◌≡◌, ℕ, inl, inr, Option, Some, None, List, [], refl, sym, ap, ◌∙◌, subst, arith, append-nil}
use Rattle.zone_bytes.proofs.Cited.{option_map, sizes, IsEdge, Spot, spot_at, seen, Tells, Seen, zone_in, IsSound, left_in, IsOnWay}
use Rattle.zone_bytes.proofs.Laws.Lawful.{sizes-length}
use Rattle.zone_bytes.proofs.Places.AtPlace.{way-above, left-above, way-at, left-at, inside, some-here}
use Rattle.zone_bytes.proofs.Places.Options.{a-spot}

module _ (xs : List ℕ) (first count : ℕ) (i : IsSound xs first count) (place : ℕ) where
  pub edge-way : IsEdge place (zone_in xs) → IsOnWay place xs
  edge-way (inl s) = way-at _ _ _ i _ _ (a-spot _ s).1
  edge-way (inr e) = way-above _ _ _ i _ [] place (sym (append-nil (zone_in xs))) (sym e)

  -- no block begins where the zone ends
  none-there : place ≡ sizes (zone_in xs) → (o : Option Spot) → spot_at place (zone_in xs) ≡ o → o ≡ None
  none-there e None q = refl
  none-there e (Some s) q =
      absurd (omega (arith, inside xs first count i place s q, some-here xs first count i place s q, sizes-length))

  -- what a walk from there tells first
  pub edge-tells : IsEdge place (zone_in xs) → (told : Option Seen) (after : List _)
      → Tells (left_in place xs) told after → told ≡ option_map (λ (s : Spot). seen s.here) (spot_at place (zone_in xs))
  edge-tells (inl s) told after t =
      (subst (λ l. Tells l told after) (left-at _ _ _ i _ _ (a-spot (spot_at place (zone_in xs)) s).1) t).0 ∙ sym
      (grind arith)
  edge-tells (inr e) told after t =
      let l = left-above xs first count i (zone_in xs) [] place (sym (append-nil (zone_in xs))) (sym e) in
      (subst (λ l. Tells l told after) l t).0 ∙ sym (ap (option_map (λ (s : Spot). seen s.here)) (none-there e _ refl))
