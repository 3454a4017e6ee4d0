-- The least number of purges after which a run has enough free bytes: all blocks below the run that is the first to
-- have them, and as few of its own as serve.
use Rattle.zone_marks.proofs.Cited.{◌≡◌, ℕ, ◌+◌, ◌-◌, ◌≤◌, ◌<◌, ◌⊎◌, zero, Bool, true, false, Some, None, List, [], ◌∷◌, ◌++◌, map, is_some}
use Rattle.zone_marks.proofs.Cited.{◌∙◌, arith, inl, inr, cases_Bool, cases_lt, le-leb, leb-false, lt-leb, map-append, Block, size, sizes}
use Rattle.zone_marks.proofs.Cited.{free_of, serves, IsFewest, FindsLowestRun, opened_block, count_of, lowest_purged, may_be_purged}
use Rattle.zone_marks.proofs.Cited.{has_free, in_run, most_purges, opened, purged, spared, Sparing, none-before, purged-all, run-rises}
use Rattle.zone_marks.proofs.Cited.{scan-is, all_purged, emptied, count_within, purges_for, run_purges_for, found_from, best, join, prefix}
use Rattle.zone_marks.proofs.Cited.{stretch_of, Stretch, Whole, all-purged}
use Rattle.block_store.specs.declared.sparing.Sparing.TheVariants as sparing
use Rattle.zone_marks.proofs.Stretches.Monoid.{join-unit_left, stretch_of-append}
use Rattle.zone_marks.proofs.Stretches.Purges.{serves-is, freed, gains, others}

module _ (p : ℕ) (sp : Block → Bool) (each : Block → Block) where
  -- Blocks that a search finds a run among, where `each` makes others of the same size of them: those below the run,
  -- and those from its first one on.
  record IsCut (had place found : ℕ) (blocks low rest : List Block) : Type 0 where
    is : blocks ≡ low ++ rest
    at : place + sizes low ≡ found
    few : (t : Stretch) → best t < p → best (join (Whole had) (join (stretch_of (map each low)) t)) < p
    enough : p ≤ prefix (stretch_of (map each rest))

  -- it is the run that the search is in, or one above it
  cut : ((b : Block) → size (each b) ≡ size b) → (start had place found : ℕ) (blocks : List Block)
      → found_from p sp start had place (map each blocks) ≡ Some found
      → ((found ≡ start) × (p ≤ had + prefix (stretch_of (map each blocks))))
      ⊎ ((low rest : List Block) × IsCut had place found blocks low rest)
  cut same start had place found [] h = grind arith
  cut same start had place found (b ∷ above) h = elim (cases_Bool (in_run (each b))) [
    | inl i ↦ elim (cut same start (had + free_of (each b)) (place + size (each b)) found above (grind arith)) [
      | inl r ↦ inl (grind arith)
      | inr c ↦ inr (b ∷ c.0, c.1, grind arith)
    ]
    | inr i ↦ elim (cases_lt had p) [
      | inl less ↦ elim (cut same (place + size (each b)) 0 (place + size (each b)) found above (grind arith)) [
        | inl r ↦ inr (b ∷ [], above, grind arith)
        | inr c ↦ inr (b ∷ c.0, c.1, grind arith)
      ]
      | inr most ↦ inl (grind arith)
    ]
  ]

-- below the run all are purged, and of its own blocks as few as serve
module _ (p : ℕ) (n : Sparing) (zone low rest : List Block) (o : opened n zone ≡ low ++ rest)
    (none : serves p n zone 0 ≡ false)
    (few : (t : Stretch) → best t < p → best (join (stretch_of (map (emptied (spared n)) low)) t) < p)
    (enough : p ≤ prefix (stretch_of (map (emptied (spared n)) rest))) where
  abbrev lacking : ℕ
  lacking = p - prefix (stretch_of rest)

  abbrev own : ℕ
  own = purges_for (spared n) lacking rest

  short : best (stretch_of rest) < p
  short = let s = serves-is p n zone [] (low ++ rest) 0 o in grind (arith, join-unit_left, stretch_of-append)

  can : is_some (run_purges_for (spared n) 0 lacking rest) ≡ true
  can = let f = freed (spared n) rest (count_of (spared n) rest) 0 lacking in
      let g = rw all-purged at (gains (spared n) rest (count_of (spared n) rest)) in grind arith

  fails : (k : ℕ) → k < own → serves p n zone (count_of (spared n) low + k) ≡ false
  fails k l =
      let fewer = leb-false _ _ ((rw can at (freed (spared n) rest k 0 lacking)) ∙ lt-leb _ _ l) in
      let same = others (spared n) rest k 0 lacking can (omega (arith, l)) in
      serves-is p n zone low rest k o ∙ lt-leb p _ (few _ (omega (arith, short, gains (spared n) rest k)))

  most : p ≤ best (stretch_of (lowest_purged own (spared n) rest))
  most = let f = rw can at (freed (spared n) rest own 0 lacking) in let g = gains (spared n) rest own in grind arith

  pub least-is : IsFewest (serves p n zone) (count_of (spared n) low + own)
  least-is = record {
    there = serves-is p n zone low rest own o ∙ le-leb p _ (grind (arith, most));
    below = λ k l. none-before (serves p n zone) (run-rises p n zone) _ k (omega arith)
        (fails (k - count_of (spared n) low) (let f = rw can at (freed (spared n) rest 0 0 lacking) in let s = short in
        grind arith));
  }

-- a zone as a search sees it first
pub opened-append : (n : Sparing) (low rest : List Block) → opened n (low ++ rest) ≡ opened n low ++ opened n rest
opened-append n low rest = grind (arith, map-append)

-- The lowest run that has enough free bytes once all are purged, with the least number of purges.
pub record IsFirst (p : ℕ) (n : Sparing) (zone : List Block) (run : ℕ) : Type 0 where
  pub low : List Block
  pub rest : List Block
  pub is : zone ≡ low ++ rest
  pub at : sizes low ≡ run
  pub least : IsFewest (serves p n zone) (count_of (spared n) (opened n low)
      + purges_for (spared n) (p - prefix (stretch_of (opened n rest))) (opened n rest))

-- as many purges as there can be, or more, purge them all
pub purged-most : (most : ℕ) (n : Sparing) (zone : List Block) → most_purges n zone ≤ most
    → purged most n zone ≡ all_purged n zone
purged-most most n zone all = grind (arith, purged-all, all-purged)

module _ (p run : ℕ) (n : Sparing) (zone : List Block) (f : FindsLowestRun (has_free p) (all_purged n zone) (Some run))
    (none : serves p n zone 0 ≡ false) where
  abbrev each : Block → Block
  each b = emptied (spared n) (opened_block n b)

  each-is : (blocks : List Block) → map (emptied (spared n)) (opened n blocks) ≡ map each blocks
  each-is [] = grind arith
  each-is (b ∷ above) = grind (arith, each-is above)

  found : found_from p (spared sparing.Nothing) 0 0 0 (map each zone) ≡ Some run
  found = scan-is None p sparing.Nothing 0 (map each zone) ∙ rw (← each-is zone) (grind arith)

  first : (low rest : List Block) → IsCut p (spared sparing.Nothing) each 0 0 run zone low rest → IsFirst p n zone run
  first low rest c = grind (arith, least-is, opened-append, each-is, join-unit_left)

  pub first-is : IsFirst p n zone run
  first-is = elim (cut p (spared sparing.Nothing) each (λ b. grind arith) 0 0 0 run zone found) [
    | inl r ↦ first [] zone (grind (arith, join-unit_left))
    | inr c ↦ first c.0 c.1 c.2
  ]

-- the blocks that may be purged below a place, and those above it
module _ (sp : Block → Bool) where
  pub goes-size : (b : Block) → may_be_purged sp b ≡ true → 0 < size b
  goes-size b e = grind arith

  pub count-past : (low rest : List Block) (bytes : ℕ) → sizes low ≤ bytes
      → count_within sp bytes (low ++ rest) ≡ count_of sp low + count_within sp (bytes - sizes low) rest
  count-past [] rest bytes l = grind arith
  count-past (b ∷ low) rest bytes l =
      grind (arith, count-past low rest zero, count-past low rest (bytes - size b), goes-size)

  pub count-few : (blocks : List Block) → count_of sp blocks ≤ sizes blocks
  count-few [] = omega arith
  count-few (b ∷ above) = grind (arith, count-few above, goes-size)

-- where no run has enough free bytes once all are purged, no number of purges serves
pub never-serves : (p : ℕ) (n : Sparing) (zone : List Block) → FindsLowestRun (has_free p) (all_purged n zone) None
    → (k : ℕ) → serves p n zone k ≡ false
never-serves p n zone f k = let e = purged-most (k + most_purges n zone) n zone (omega arith) in
    none-before (serves p n zone) (run-rises p n zone) (k + most_purges n zone) k (omega arith) (rw (e, f))
