-- The search for a run passes blocks by what they come to.
use Rattle.zone_marks.proofs.Cited.{◌≡◌, ℕ, ◌+◌, ◌<◌, ◌≤◌, Bool, true, false, None, Some, List, [], ◌∷◌, ◌++◌, map, refl, arith, Block}
use Rattle.zone_marks.proofs.Cited.{is_relocatable, sizes, scan_runs, count_of, has, emptied, begun_in, found_from, join, best, is_ended}
use Rattle.zone_marks.proofs.Cited.{stretch_of, suffix, Whole}

-- where a run began
pub begun-append : (start place : ℕ) (low high : List Block) → begun_in start place (low ++ high)
    ≡ begun_in (begun_in start place low) (place + sizes low) high
begun-append start place [] high = grind arith
begun-append start place (b ∷ low) high = let more = λ (s q : ℕ). begun-append s q low high in grind arith

pub begun-ended : (some other place : ℕ) (blocks : List Block) → is_ended (stretch_of blocks) ≡ true
    → begun_in some place blocks ≡ begun_in other place blocks
begun-ended some other place [] e = grind arith
begun-ended some other place (b ∷ above) e = let more = λ (q : ℕ). begun-ended some other q above in grind arith

pub begun-open : (start place : ℕ) (blocks : List Block) → is_ended (stretch_of blocks) ≡ false
    → begun_in start place blocks ≡ start
begun-open start place [] e = refl
begun-open start place (b ∷ above) e = let more = λ (s q : ℕ). begun-open s q above in grind arith

module _ (p : ℕ) (sp : Block → Bool) where
  -- a search goes so past blocks of which no run has enough bytes, and one for the run of a slot's block past all others
  pub past-short : (start had place : ℕ) (done above : List Block) → best (join (Whole had) (stretch_of done)) < p
      → found_from p sp start had place (done ++ above) ≡ found_from p sp (begun_in start place done)
      (suffix (join (Whole had) (stretch_of done))) (place + sizes done) above
  past-short start had place [] above h = grind arith
  past-short start had place (b ∷ done) above h = let more = λ (s h q : ℕ). past-short s h q done above in grind arith

  pub past-others : (number start had place : ℕ) (done above : List Block) → has (is_relocatable number) done ≡ false
      → scan_runs (Some number) p sp 0 start had false place (done ++ above)
      ≡ scan_runs (Some number) p sp 0 (begun_in start place done) (suffix (join (Whole had) (stretch_of done))) false
      (place + sizes done) above
  past-others number start had place [] above n = grind arith
  past-others number start had place (b ∷ done) above n =
      let more = λ (s h q : ℕ). past-others number s h q done above in grind arith

-- blocks of which none may be purged
pub emptied-none : (sp : Block → Bool) (blocks : List Block) → count_of sp blocks ≤ 0 → map (emptied sp) blocks ≡ blocks
emptied-none sp [] few = refl
emptied-none sp (b ∷ above) few = grind (arith, emptied-none sp above)

-- a search with a purge for each block that may be purged finds what one finds once they all were
pub scan-emptied : (p : ℕ) (sp : Block → Bool) (k start free place : ℕ) (blocks : List Block) → count_of sp blocks ≤ k
    → scan_runs None p sp k start free true place blocks ≡ found_from p sp start free place (map (emptied sp) blocks)
scan-emptied p sp k start free place [] few = grind arith
scan-emptied p sp k start free place (b ∷ above) few =
    let more = λ (k s f q : ℕ). scan-emptied p sp k s f q above in grind (arith, emptied-none)
