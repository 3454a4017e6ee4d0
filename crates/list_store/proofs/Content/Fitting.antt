use Rattle.list_store.proofs.Cited.{◌≡◌, ℕ, ◌+◌, ◌≤◌, ◌<◌, List, ◌∷◌, ◌++◌, length, take, drop, get_or, sym, ◌∙◌, ap, subst, slice_set}
use Rattle.list_store.proofs.Cited.{take-append-drop, IsSomeAnd, Block, Free, size, sizes, spot_at, StoredBlock, block_of, blocks_of}
use Rattle.list_store.proofs.Cited.{nth_spot, sizes-carved}
use Rattle.list_store.specs.declared.entries.StoredBlock.TheVariants as entry
use Rattle.list_store.proofs.Zone.Listing.{drop-blocks, entry_fits}
use Rattle.list_store.proofs.Zone.Spots.{from_entry, blocks-carved}

-- the entry of an index, in which a block has room
pub record FitsAt (es : List StoredBlock) (i : ℕ) (e : StoredBlock) (new : Block) : Type 0 where
  pub within : i < length es
  pub room : size new ≤ size (block_of e)
  pub below : sizes (take i (blocks_of es)) + size (block_of e) ≤ sizes (blocks_of es)
  pub whole : take i (blocks_of es) ++ block_of e ∷ drop (i + 1) (blocks_of es) ≡ blocks_of es

pub fits-at : (es now : List StoredBlock) (place i : ℕ) (e : StoredBlock) (new : Block) → now ≡ es
    → (i < length now) × (spot_at place (blocks_of now) ≡ nth_spot i (blocks_of now)) → e ≡ get_or es i e
    → IsSomeAnd (spot_at place (blocks_of es)) (λ s. size new ≤ size s.here) → FitsAt es i e new
fits-at es now place i e new same found is room =
    let within : i < length es = subst (λ (l : List StoredBlock). i < length l) same found.0 in
    record {
      within = within;
      room = from_entry es now place i e (λ s. size new ≤ size s.here) same found is room;
      below = entry_fits es i e within is;
      whole = ap (λ l. take i (blocks_of es) ++ l) (sym (drop-blocks es i e within is))
          ∙ take-append-drop i (blocks_of es);
    }

-- the block in its place, and what it leaves above it
pub carved-at : (es inserted : List StoredBlock) (i left : ℕ) (e new : StoredBlock) → FitsAt es i e (block_of new)
    → inserted ≡ take (i + 1) es ++ entry.Free left ∷ drop (i + 1) es → size (block_of new) + left ≡ size (block_of e)
    → (blocks_of (slice_set inserted i new) ≡ take i (blocks_of es)
    ++ block_of new ∷ Free left ∷ drop (i + 1) (blocks_of es))
    × (sizes (blocks_of (slice_set inserted i new)) ≡ sizes (blocks_of es))
carved-at es inserted i left e new fits is all =
    let after = ap (λ l. blocks_of (slice_set l i new)) is ∙ blocks-carved es i left new fits.within in (
      after,
      ap sizes after ∙ sizes-carved (take i (blocks_of es)) (drop (i + 1) (blocks_of es)) (block_of e)
          (block_of new) left all ∙ ap sizes fits.whole,
    )
