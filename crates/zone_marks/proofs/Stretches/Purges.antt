-- The most of a stretch is that of its runs, or of its spaces. What blocks come to after purges: all those below a
-- place, and some of those above it; what purges of the lowest run of blocks free.
use Rattle.zone_marks.proofs.Cited.{◌≡◌, ℕ, ◌+◌, zero, suc, Bool, List, [], ◌∷◌, ◌++◌, map, nat_le, refl, arith, ◌-◌, ◌≤◌, ◌&&◌, ◌⊎◌, true}
use Rattle.zone_marks.proofs.Cited.{false, Some, inl, inr, is_some, cond, free_sum, Block, size, tidy, largest, largest_run, largest_free}
use Rattle.zone_marks.proofs.Cited.{segments, in_run, Nothing, lowest_purged, may_be_purged, count_of, serves, opened, spared, Sparing}
use Rattle.zone_marks.proofs.Cited.{largest_stretch, largest-purged, lowest_purged-none, run-there, emptied, all_purged, spaces_of, prefix}
use Rattle.zone_marks.proofs.Cited.{beyond, stretch_of, join, best, Whole, purges_for, run_purges_for, all-purged, purged-below}
use Rattle.zone_marks.proofs.Stretches.Monoid.{join-assoc, join-unit_left, stretch_of-append}

-- the most of a stretch is that of the runs of its blocks
cut_of : (zone : List Block) → (prefix (stretch_of zone) ≡ free_sum (segments zone).first)
    × (beyond (stretch_of zone) ≡ largest free_sum (map (λ p. p.run) (segments zone).rest))
cut_of [] = grind arith
cut_of (b ∷ above) = grind (arith, cut_of above)

pub largest_run_is : (zone : List Block) → largest_run zone ≡ best (stretch_of zone)
largest_run_is zone = grind (arith, cut_of)

-- a stretch does not see whether neighbouring Free blocks are one
stretch_of-tidy : (bs : List Block) → stretch_of (tidy bs) ≡ stretch_of bs
stretch_of-tidy [] = refl
stretch_of-tidy (b ∷ bs) = grind (arith, join-unit_left, join-assoc, stretch_of-tidy bs)

-- the most of the spaces of blocks is the largest free block of the zone once all that may be purged were
spaces_from : (zone : List Block) (free : ℕ)
    → largest_stretch free (map (emptied (spared Nothing)) zone) ≡ best (join (Whole free) (spaces_of zone))
spaces_from [] free = grind arith
spaces_from (b ∷ above) free = grind (arith, spaces_from above)

pub largest_free_is : (zone : List Block) → largest_free (all_purged Nothing zone) ≡ best (spaces_of zone)
largest_free_is zone = let s = rw all-purged at (largest-purged Nothing (count_of (spared Nothing) zone) zone) in
    grind (arith, spaces_from, join-unit_left)

-- what the code of `best` names
pub ruleset bests = (largest_run_is, largest_free_is)

module _ (sp : Block → Bool) where
  -- a block is purged, or it stays, in its run or at its end
  kind : (b : Block) → (may_be_purged sp b ≡ true)
      ⊎ (((may_be_purged sp b ≡ false) × (in_run b ≡ true)) ⊎ ((may_be_purged sp b ≡ false) × (in_run b ≡ false)))
  kind b = grind arith

  -- the bytes that so many purges free in the lowest run
  abbrev pub gain : ℕ → List Block → ℕ
  gain k [] = 0
  gain zero (b ∷ above) = 0
  gain (suc k) (b ∷ above) = cond (may_be_purged sp b) (size b + gain k above) (cond (in_run b) (gain (suc k) above) 0)

  pub gains : (blocks : List Block) (k : ℕ)
      → prefix (stretch_of (lowest_purged k sp blocks)) ≡ prefix (stretch_of blocks) + gain k blocks
  gains [] k = grind (arith, lowest_purged-none)
  gains (b ∷ above) k = grind (arith, gains above)

  -- they are enough from the least number on that the count gives, if it gives one
  pub freed : (blocks : List Block) (k done bytes : ℕ) → nat_le bytes (gain k blocks)
      ≡ (is_some (run_purges_for sp done bytes blocks) && nat_le (purges_for sp bytes blocks) k)
  freed (b ∷ above) zero done (suc m) = grind (arith, kind, freed above zero done (suc m))
  freed (b ∷ above) (suc k) done (suc m) = elim (kind b) [
    | inl e ↦ rw e (grind (arith, freed above k (suc done) (suc m - size b)))
    | inr e ↦ grind (arith, freed above (suc k) done (suc m))
  ]
  freed _ k done bytes = grind arith

  pub own-is : (blocks : List Block) (done bytes n : ℕ) → run_purges_for sp done bytes blocks ≡ Some n
      → n ≡ done + purges_for sp bytes blocks
  own-is (b ∷ above) done (suc m) n h =
      grind (arith, kind, own-is above (suc done) (suc m - size b), own-is above done (suc m))
  own-is _ done bytes n h = grind arith

  -- and the runs above stay as they are
  pub others : (blocks : List Block) (k done bytes : ℕ) → is_some (run_purges_for sp done bytes blocks) ≡ true
      → k ≤ purges_for sp bytes blocks → beyond (stretch_of (lowest_purged k sp blocks)) ≡ beyond (stretch_of blocks)
  others (b ∷ above) (suc k) done (suc m) h l = elim (kind b) [
    | inl e ↦ rw e (grind (arith, others above k (suc done) (suc m - size b)))
    | inr e ↦ grind (arith, others above (suc k) done (suc m))
  ]
  others _ k done bytes h l = grind (arith, lowest_purged-none)

-- the most of a run after the purges below a place, and some of those above it
pub serves-is : (p : ℕ) (n : Sparing) (zone low rest : List Block) (j : ℕ) → opened n zone ≡ low ++ rest
    → serves p n zone (count_of (spared n) low + j)
    ≡ nat_le p (best (join (stretch_of (map (emptied (spared n)) low)) (stretch_of (lowest_purged j (spared n) rest))))
serves-is p n zone low rest j e =
    rw (run-there, largest_run_is, stretch_of-tidy, e, purged-below (spared n) low rest j _ refl, stretch_of-append)
