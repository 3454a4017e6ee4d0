-- The run at a place of a zone in bytes is raised.
use Rattle.zone_bytes.proofs.Cited.{◌≡◌, ℕ, ◌+◌, ◌%◌, ◌<◌, ◌≤◌, IsTrue, Some, List, sym, ap, arith, ◌∙◌, subst, append_assoc, IsSomeAnd}
use Rattle.zone_bytes.proofs.Cited.{Block, Free, free_sum, sizes, tidy, RunSpot, run_at, has_free, low, with_run, apart-tidy, total-tidy}
use Rattle.zone_bytes.proofs.Cited.{low-none, low-total, tidy-change, lifted, MayLift, Lifted, zone_in, slot_in, IsSound, lay_at}
use Rattle.zone_bytes.proofs.Runs.Changed.{ChangedRun, relaid-run}
use Rattle.zone_bytes.proofs.Runs.RunsAt.{whole, in-run, lay-is, may-settle}
use Rattle.zone_bytes.proofs.Runs.Raises.{lifted-some, any-movers, lifted-instead}

-- the run at a place, which has so many Free bytes
pub room-run : (zone : List Block) (place gap : ℕ) → IsSomeAnd (run_at place zone) (λ r. IsTrue (has_free gap r.run))
    → (r : RunSpot) × (run_at place zone ≡ Some r) × (gap ≤ free_sum r.run)
room-run zone place gap h = grind arith

module _ (xs : List ℕ) (first unused : ℕ) (i : IsSound xs first unused) (place : ℕ) (r : RunSpot)
    (e : run_at place (zone_in xs) ≡ Some r) (gap : ℕ) (some : 0 < gap) (enough : gap ≤ free_sum r.run) where
  pub may-lift : gap % 16 ≡ 0 → MayLift (lay_at xs place) place gap
  may-lift even =
      let l = lay-is xs first unused i place r e in
      record {
        run = may-settle _ _ _ i _ r e _ (sym (ap (λ z. place + sizes z.run) l));
        some = some;
        even = even;
        enough = subst (λ z. gap ≤ free_sum z.run) (sym l) enough;
      }

  pub lifted-run : (new : List ℕ) → Lifted (lay_at xs place) gap new
      → ChangedRun (lifted gap) (zone_in xs) r new first unused (slot_in xs)
  lifted-run new d =
      let s = subst (λ z. Lifted z gap new) (lay-is xs first unused i place r e) d in
      relaid-run (lifted gap) place (zone_in xs) r e
      (λ of adds l. total-tidy of adds (low (Free gap) r.run) ∙ low-total of adds gap r.run l enough)
      (tidy-change place (zone_in xs) r e i.tidied (lifted gap r.run) (apart-tidy (low (Free gap) r.run)))
      xs first unused i (lifted-instead gap r.below r.run r.above some enough (in-run xs first unused i place r e))
      (whole xs first unused i place r e) (sym (append_assoc r.below (lifted gap r.run) r.above)) new s

  pub lifted-zone : tidy (with_run (lifted gap) r) ≡ tidy (with_run (low (Free gap)) r)
  lifted-zone = grind (arith, any-movers, low-none, lifted-some)
