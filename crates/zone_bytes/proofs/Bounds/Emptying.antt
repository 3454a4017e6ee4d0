-- What the lowest purges of blocks come to: those of all blocks below a place, and of all blocks.
use Rattle.zone_bytes.proofs.Cited.{◌≡◌, ℕ, ◌+◌, zero, suc, Bool, List, [], ◌∷◌, ◌++◌, map, refl, arith, append-nil, add-zero, Block}
use Rattle.zone_bytes.proofs.Cited.{lowest_purged, count_of, emptied}

module _ (sp : Block → Bool) where
  -- the lowest purges are those below a place
  pub purged-below : (low rest : List Block) (j k : ℕ) → k ≡ count_of sp low + j
      → lowest_purged k sp (low ++ rest) ≡ map (emptied sp) low ++ lowest_purged j sp rest
  purged-below [] rest j k e = grind arith
  purged-below (b ∷ low) rest j zero e = grind (arith, purged-below low rest j 0)
  purged-below (b ∷ low) rest j (suc k) e = grind (arith, purged-below low rest j k, purged-below low rest j (suc k))

  pub all-purged : (blocks : List Block) → lowest_purged (count_of sp blocks) sp blocks ≡ map (emptied sp) blocks
  all-purged blocks = simp (append-nil, add-zero) at (purged-below blocks [] 0 (count_of sp blocks + 0) refl)
