-- The run of the block of a master pointer, after purges: it stays where it is. As few purges serve as are below it,
-- and as few of its own as free what it lacks.
use Rattle.zone_marks.proofs.Cited.{◌≡◌, ℕ, ◌+◌, ◌-◌, ◌≤◌, ◌<◌, ◌⊎◌, Bool, true, false, ◌&&◌, Option, Some, None, nat_le, List, [], ◌∷◌}
use Rattle.zone_marks.proofs.Cited.{◌++◌, is_some, option_map, arith, inl, inr, cases_Bool, Block, size, sizes, free_of, count}
use Rattle.zone_marks.proofs.Cited.{is_relocatable, serves_block, IsFewest, FindsLowestRun, scan_runs, count_of, lowest_purged}
use Rattle.zone_marks.proofs.Cited.{may_be_purged, RunSpot, has, has_free, in_run, run_spot, opened, purged, spared, Sparing}
use Rattle.zone_marks.proofs.Cited.{lowest_purged-none, scan-end, scan-is, scan_kept, suits-slot, purges_for, run_purges_for, prefix}
use Rattle.zone_marks.proofs.Cited.{stretch_of}
use Rattle.block_store.specs.declared.sparing.Sparing.TheVariants as sparing
use Rattle.zone_marks.proofs.Stretches.Purges.{freed, gain, gains, own-is}

-- a walk that counts purges looks at one block
pub run-goes : (sp : Block → Bool) (done left : ℕ) (b : Block) (above : List Block) → 0 < left
    → may_be_purged sp b ≡ true
    → run_purges_for sp done left (b ∷ above) ≡ run_purges_for sp (done + 1) (left - size b) above
run-goes sp done left b above l e = grind arith

-- the search for the run of a block that is not purged
module _ (number p : ℕ) (sp : Block → Bool) (keeps : (b : Block) → is_relocatable number b ≡ true → sp b ≡ true) where
  abbrev wanted : Block → Bool
  wanted b = is_relocatable number b

  -- for a run with enough bytes, after purges; and for one with any number of them
  abbrev scan : ℕ → ℕ → ℕ → Bool → ℕ → List Block → Option ℕ
  scan k start free met place blocks = scan_runs (Some number) p sp k start free met place blocks

  abbrev seek : ℕ → ℕ → ℕ → List Block → Option ℕ
  seek start free place blocks = scan_runs (Some number) 0 (spared sparing.Nothing) 0 start free false place blocks

  -- where these blocks don't have the block, its run can only be the one that the search is in
  last-law : (blocks : List Block) (k start free : ℕ) (met : Bool) (place : ℕ) → count wanted blocks ≤ 0
      → is_some (scan k start free met place blocks)
      ≡ (met && nat_le p (free + prefix (stretch_of (lowest_purged k sp blocks))))
  last-law [] k start free met place l = grind (arith, scan-end, lowest_purged-none)
  last-law (b ∷ above) k start free met place l = grind (arith, last-law above)

  -- a run that isn't there has too few bytes after any purges
  never : (blocks : List Block) (k start had free place : ℕ) → seek start had place blocks ≡ None
      → scan k start free false place blocks ≡ None
  never [] k start had free place h = scan-end (Some number) p sp k start free false place
  never (b ∷ above) k start had free place h = grind (arith, scan_kept, never above)

  -- The run began before these blocks, or it begins at `found` among them.
  record IsHere (start found : ℕ) (blocks : List Block) : Type 0 where
    at : found ≡ start
    law : (k start free place : ℕ) → is_some (scan k start free false place blocks)
        ≡ nat_le p (free + prefix (stretch_of (lowest_purged k sp blocks)))

  record IsCut (place found : ℕ) (blocks low rest : List Block) : Type 0 where
    is : blocks ≡ low ++ rest
    at : place + sizes low ≡ found
    law : (k start free place : ℕ) → is_some (scan k start free false place blocks)
        ≡ nat_le p (prefix (stretch_of (lowest_purged (k - count_of sp low) sp rest)))

  cut-first : (place found : ℕ) (b : Block) (above : List Block) → in_run b ≡ false
      → IsHere (place + size b) found above → IsCut place found (b ∷ above) (b ∷ []) above
  cut-first place found b above i h = let c : count_of sp (b ∷ []) ≡ 0 = grind arith in grind arith

  cut : (start free place found : ℕ) (blocks : List Block) → count wanted blocks ≤ 1
      → seek start free place blocks ≡ Some found
      → IsHere start found blocks ⊎ ((low rest : List Block) × IsCut place found blocks low rest)
  cut start free place found [] once h = grind arith
  cut start free place found (b ∷ above) once h = elim (cases_Bool (in_run b)) [
    | inl i ↦ elim (cases_Bool (wanted b)) [
      | inl w ↦ inl (grind (arith, last-law, scan_kept))
      | inr w ↦ elim (cut start (free + free_of b) (place + size b) found above (omega (arith, once)) (grind arith)) [
        | inl r ↦ inl (grind arith)
        | inr c ↦ inr (b ∷ c.0, c.1, grind arith)
      ]
    ]
    | inr i ↦ elim (cut (place + size b) 0 (place + size b) found above (omega (arith, once)) (grind arith)) [
      | inl r ↦ inr (b ∷ [], above, cut-first place found b above i r)
      | inr c ↦ inr (b ∷ c.0, c.1, grind arith)
    ]
  ]

-- The run of the block, and what it has after so many purges.
pub record IsRunOf (number p : ℕ) (n : Sparing) (zone : List Block) (run : ℕ) : Type 0 where
  pub low : List Block
  pub rest : List Block
  pub is : zone ≡ low ++ rest
  pub at : sizes low ≡ run
  pub law : (k : ℕ) → serves_block number p n zone k
      ≡ nat_le p (prefix (stretch_of (lowest_purged (k - count_of (spared n) low) (spared n) rest)))

module _ (number p : ℕ) (n : Sparing) (zone : List Block) (whole : opened n zone ≡ zone)
    (keeps : (b : Block) → is_relocatable number b ≡ true → spared n b ≡ true) where
  abbrev tested : List Block → Bool
  tested run = has (is_relocatable number) run && has_free 0 run

  serves-scan : (k : ℕ) → serves_block number p n zone k
      ≡ is_some (scan_runs (Some number) p (spared n) k 0 0 false 0 zone)
  serves-scan k = let s = rw whole at (scan-is (Some number) p n k zone) in rw (← suits-slot number p) (grind arith)

  found-is : seek number p (spared n) keeps 0 0 0 zone
      ≡ option_map (λ (r : RunSpot). sizes r.below) (run_spot tested (purged 0 sparing.Nothing zone))
  found-is = rw (← suits-slot number 0) (scan-is (Some number) 0 sparing.Nothing 0 zone)

  pub run-of : (run : ℕ) → count (is_relocatable number) zone ≤ 1
      → FindsLowestRun tested (purged 0 sparing.Nothing zone) (Some run) → IsRunOf number p n zone run
  run-of run once f = elim (cut number p (spared n) keeps 0 0 0 run zone once (grind (arith, found-is))) [
    | inl r ↦ grind (arith, serves-scan, nat_le)
    | inr c ↦ grind (arith, serves-scan)
  ]

  pub no-run-of : FindsLowestRun tested (purged 0 sparing.Nothing zone) None
      → (k : ℕ) → serves_block number p n zone k ≡ false
  no-run-of f k = grind (arith, serves-scan, never, found-is)

fewest-past : (test : ℕ → Bool) (c own p had : ℕ) (g : ℕ → ℕ) → ((k : ℕ) → test k ≡ nat_le p (had + g (k - c)))
    → had < p → ((k : ℕ) → nat_le (p - had) (g k) ≡ nat_le own k) → g 0 ≡ 0 → IsFewest test (c + own)
fewest-past test c own p had g law l least z = grind arith

module _ (number p : ℕ) (n : Sparing) (zone : List Block) (run : ℕ) (r : IsRunOf number p n zone run) where
  abbrev has_now : ℕ
  has_now = prefix (stretch_of r.rest)

  law-now : (k : ℕ) → serves_block number p n zone k
      ≡ nat_le p (has_now + gain (spared n) (k - count_of (spared n) r.low) r.rest)
  law-now k = grind (arith, gains)

  -- the run has enough now, it lacks what some of its blocks free, or what all of them do not
  pub enough-now : p ≤ has_now → IsFewest (serves_block number p n zone) 0
  enough-now l = let h = law-now 0 in grind arith

  pub fewest-of : (own : ℕ) → has_now < p → run_purges_for (spared n) 0 (p - has_now) r.rest ≡ Some own
      → IsFewest (serves_block number p n zone) (count_of (spared n) r.low + own)
  fewest-of own l e =
      let is : purges_for (spared n) (p - has_now) r.rest ≡ own = omega (arith, own-is (spared n) r.rest 0 _ own e) in
      fewest-past (serves_block number p n zone) _ own p has_now (λ k. gain (spared n) k r.rest) law-now l
      (λ k. rw (e, is) at (freed (spared n) r.rest k 0 (p - has_now))) (grind (arith, gains))

  pub never-enough : has_now < p → run_purges_for (spared n) 0 (p - has_now) r.rest ≡ None
      → (k : ℕ) → serves_block number p n zone k ≡ false
  never-enough l e k =
      let h = rw e at (freed (spared n) r.rest (k - count_of (spared n) r.low) 0 (p - has_now)) in
      grind (arith, law-now)
