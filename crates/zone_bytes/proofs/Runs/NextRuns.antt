-- The run above a run of a RawZone.
use Rattle.zone_bytes.proofs.Cited.{◌++◌, ◌≡◌, ℕ, ◌+◌, ◌≤◌, Option, Some, None, List, sym, ap, ◌∙◌, arith, option_map, Block, sizes, beyond}
use Rattle.zone_bytes.proofs.Cited.{place_behind, next_run, RunSpot, run_at, segments, beyond-first, behind-within, run_at-bottom}
use Rattle.zone_bytes.proofs.Cited.{first-run, run_at-ended, zone_in, IsSound, left_in, GREATEST_ZONE}
use Rattle.zone_bytes.proofs.Places.AtPlace.{left-above}
use Rattle.zone_bytes.proofs.Runs.RunsAt.{whole, in-run, left-fits}
use Rattle.zone_bytes.proofs.Tiles.Tiling.{span-append}

-- the place behind the run that comes first, as a walk finds it
abbrev pub BehindFirst : List Block → Option ℕ
BehindFirst blocks = place_behind (sizes (segments blocks).first) (beyond (segments blocks).rest)

module _ (xs : List ℕ) (first count : ℕ) (i : IsSound xs first count) (place : ℕ) (r : RunSpot)
    (e : run_at place (zone_in xs) ≡ Some r) (walk : List Block) (w : walk ≡ left_in place xs) where
  walk-is : walk ≡ r.run ++ r.above
  walk-is = w ∙ left-above _ _ _ i _ _ _ (whole _ _ _ i place r e) (run_at-bottom place (zone_in xs) r e)

  behind : BehindFirst walk ≡ place_behind (sizes r.run) r.above
  behind =
      let l = in-run xs first count i place r e in
      let s = (run_at-ended place (zone_in xs) r e).stops in
      ap BehindFirst walk-is ∙ (λ j. place_behind (sizes (first-run _ _ l s j)) (beyond-first _ _ l s j))

  next-is : (o : Option ℕ) → o ≡ BehindFirst walk → option_map (λ (d : ℕ). place + d) o ≡ next_run r
  next-is o n = grind (arith, run_at-bottom, behind)

  pub next-none : None ≡ BehindFirst walk → None ≡ next_run r
  next-none = next-is None

  pub next-some : (d : ℕ) → Some d ≡ BehindFirst walk → Some (place + d) ≡ next_run r
  next-some d = next-is (Some d)

  pub next-fits : (d : ℕ) → Some d ≡ BehindFirst walk → place + d ≤ GREATEST_ZONE
  next-fits d n = omega (
    arith,
    behind-within (sizes r.run) r.above d (sym (n ∙ behind)),
    left-fits xs first count i place r e,
    ap sizes (sym w ∙ walk-is),
    span-append,
  )
