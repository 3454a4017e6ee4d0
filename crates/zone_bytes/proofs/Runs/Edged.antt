-- Edges that were noted while a run was packed or raised.
use Rattle.zone_bytes.proofs.Cited.{◌≡◌, ℕ, ◌+◌, ◌-◌, ◌<◌, inl, inr, Bool, Some, cond, List, [], ◌∷◌, ◌++◌, append_assoc, refl, ◌∙◌, subst}
use Rattle.zone_bytes.proofs.Cited.{arith, Block, Free, free, free_sum, is_mover, RunSpot, run_at, movers, settle, Slot, zone_in, AreEdges}
use Rattle.zone_bytes.proofs.Cited.{ByEdges, IsMover, Each, lifted, Edges, run_at-bottom}
use Rattle.zone_bytes.proofs.Runs.Changed.{ChangedRun}
use Rattle.zone_bytes.proofs.Runs.Raises.{any-movers, lifted-some}
use Rattle.zone_bytes.proofs.Tiles.Tiling.{span-append}

-- the blocks of a run that may move
movers-solid : (run : List Block) → Each IsMover (movers run)
movers-solid [] = tt
movers-solid (b ∷ run) = cases (is_mover b) refl (movers-solid run)
  where
    cases : (t : Bool) → is_mover b ≡ t → Each IsMover (movers run) → Each IsMover
        (cond t (b ∷ movers run) (movers run))
    cases t e s = grind arith

module _ {zone : List Block} {r : RunSpot} {new : List ℕ} {first unused : ℕ} {table : ℕ → Slot} (place : ℕ)
    (edges : Edges) (e : run_at place zone ≡ Some r) where
  pub settled-edges : ChangedRun settle zone r new first unused table → AreEdges edges place (movers r.run)
      → ByEdges edges place (zone_in new)
  settled-edges d a = grind (arith, append_assoc, run_at-bottom, movers-solid)

  pub lifted-edges : (gap : ℕ) → 0 < gap → ChangedRun (lifted gap) zone r new first unused table
      → AreEdges edges (place + gap) (movers r.run) → ByEdges edges (place + gap) (zone_in new)
  lifted-edges gap some d a = elim (any-movers r.run) [
    | inl n ↦ inl (subst (AreEdges edges (place + gap)) n a)
    | inr s ↦
        let left = free (free_sum r.run - gap) in
        inr (record {
          below = r.below ++ Free gap ∷ [];
          movers = movers r.run;
          above = left ++ r.above;
          is = d.is ∙ rw (lifted-some gap r.run some s) (simp append_assoc);
          low = omega (arith, run_at-bottom place zone r e, span-append);
          solid = movers-solid r.run;
          edges_are = a;
        })
  ]
