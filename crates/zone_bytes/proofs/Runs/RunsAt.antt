-- The run at a place of a RawZone, and how it is settled.
use Rattle.zone_bytes.proofs.Cited.{◌≡◌, ℕ, Bool, not, cond, nat_lt, zero, suc, ◌+◌, ◌<◌, ◌≤◌, Some, List, [], ◌∷◌, ◌++◌, drop, sym, refl}
use Rattle.zone_bytes.proofs.Cited.{ap, subst, arith, false≢true, Block, Free, Relocatable, size, sizes, count, is_mover, free_of, RunSpot}
use Rattle.zone_bytes.proofs.Cited.{run_at, Loose, lowered_in_run, Stops, run_at-ended, run_at-is, run_at-parts, Tiles, EndsRun, IsRunFrom}
use Rattle.zone_bytes.proofs.Cited.{lowered_in_run_from, zone_in, slot_in, IsSound, lay_from, lay_at, left_in, IsOnWay, run_at-bottom}
use Rattle.zone_bytes.proofs.Cited.{is_resource, GREATEST_ZONE}
use Rattle.zone_bytes.proofs.Places.AtPlace.{way-above}
use Rattle.zone_bytes.proofs.Places.Stepped.{left-is}

ends-run : (above : List Block) → Stops above → EndsRun above
ends-run above s = grind arith

-- how many blocks come lower
lowered-all : (gap : ℕ) (run : List Block) → 0 < gap → lowered_in_run_from gap run ≡ count is_mover run
lowered-all zero run h = absurd (omega arith)
lowered-all (suc gap) [] h = refl
lowered-all (suc gap) (b ∷ run) h = step b (is_mover b) (lowered-all (suc gap + free_of b) run (omega arith))
  where
    step : (b : Block) (t : Bool) → lowered_in_run_from (suc gap + free_of b) run ≡ count is_mover run
        → (cond {A = ℕ} t (cond {A = ℕ} (nat_lt 0 (suc gap)) 1 0) 0) + lowered_in_run_from
        (suc gap + free_of b) run ≡ cond {A = ℕ} t 1 0 + count is_mover run
    step b t e = grind arith

module _ (head : Block → List ℕ) where
  pub lowered-lowered_in_run : (xs : List ℕ) (run : List Block) → Tiles head xs run → Loose run
      → lowered_in_run_from 0 run ≡ lowered_in_run run
  lowered-lowered_in_run xs [] t e = refl
  lowered-lowered_in_run xs (Free n ∷ run) t e = let l = lowered-all (0 + n) run (omega arith) in omega arith
  lowered-lowered_in_run xs (Relocatable id flags content ∷ run) t e =
      let l = lowered-lowered_in_run (drop (size (Relocatable id flags content)) xs) run t.1 e.1 in
      let none : cond {A = ℕ} (not flags.locked) 0 0 ≡ 0 = grind arith in
      omega arith
  lowered-lowered_in_run xs _ t e = absurd (false≢true e.0)

module _ (xs : List ℕ) (first count : ℕ) (i : IsSound xs first count) (place : ℕ) (r : RunSpot)
    (e : run_at place (zone_in xs) ≡ Some r) where
  pub whole : zone_in xs ≡ r.below ++ (r.run ++ r.above)
  whole = sym (run_at-is place (zone_in xs) r e)

  pub bottom : sizes r.below ≡ place
  bottom = run_at-bottom place (zone_in xs) r e

  pub in-run : Loose r.run
  in-run = (run_at-parts place (zone_in xs) r e).loose

  pub run-way : IsOnWay place xs
  run-way = way-above xs first count i r.below (r.run ++ r.above) place whole bottom

  pub left-fits : place + sizes (left_in place xs) ≤ GREATEST_ZONE
  left-fits = omega (arith, ap sizes (left-is place xs run-way), run-way.walk.up)

  pub lay-is : lay_at xs place ≡ record {
    resource = λ s. is_resource (slot_in xs s);
    below = r.below;
    run = r.run;
    above = r.above;
    bytes = xs;
  }
  lay-is = ap (lay_from xs) e

  pub lay-bytes : xs ≡ (lay_at xs place).bytes
  lay-bytes = sym (ap (λ l. l.bytes) lay-is)

  pub may-end : EndsRun (lay_at xs place).above
  may-end = subst (λ l. EndsRun l.above) (sym lay-is) (ends-run r.above (run_at-ended place (zone_in xs) r e).stops)

  pub may-settle : (stop : ℕ) → place + sizes r.run ≡ stop → IsRunFrom (lay_at xs place) place stop
  may-settle stop t = grind (arith, bottom, in-run, whole)
