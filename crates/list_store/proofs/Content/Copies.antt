use Rattle.list_store.proofs.Cited.{◌≡◌, ℕ, ◌+◌, ◌<◌, List, ◌∷◌, ◌++◌, length, take, drop, get_or, sym, ◌∙◌, ap, subst, Option, slice_set}
use Rattle.list_store.proofs.Cited.{set-set, IfSome, IsSomeAnd, Block, Spot, StoredBlock, block_of, blocks_of, nth_spot}
use Rattle.list_store.proofs.Zone.Listing.{nth_spot-at, drop-blocks}
use Rattle.list_store.proofs.Zone.Spots.{blocks-set}

-- the spot of an index
pub at_nth : (es : List StoredBlock) (i : ℕ) (e : StoredBlock) (P : Spot → Type 0) → i < length es → e ≡ get_or es i e
    → P (record { below = take i (blocks_of es); here = block_of e; above = drop (i + 1) (blocks_of es) })
    → IfSome (nth_spot i (blocks_of es)) P
at_nth es i e P within is holds =
    subst (λ (o : Option Spot). IfSome o P) (sym (nth_spot-at i (blocks_of es) (block_of e)
    (drop (i + 1) (blocks_of es)) (drop-blocks es i e within is))) holds

-- what a condition on the spot of an index says of the entry
pub from_nth : (es : List StoredBlock) (i : ℕ) (e : StoredBlock) (P : Spot → Type 0) → i < length es → e ≡ get_or es i e
    → IsSomeAnd (nth_spot i (blocks_of es)) P
    → P (record { below = take i (blocks_of es); here = block_of e; above = drop (i + 1) (blocks_of es) })
from_nth es i e P within is holds =
    subst (λ (o : Option Spot). IsSomeAnd o P) (nth_spot-at i (blocks_of es) (block_of e) (drop (i + 1) (blocks_of es))
    (drop-blocks es i e within is)) holds

-- an entry was replaced, and set
pub blocks-replaced : (es : List StoredBlock) (i : ℕ) (hole w : StoredBlock) (b : Block) → i < length es
    → block_of w ≡ b
    → blocks_of (slice_set (slice_set es i hole) i w) ≡ take i (blocks_of es) ++ b ∷ drop (i + 1) (blocks_of es)
blocks-replaced es i hole w b within is = ap blocks_of (set-set es i hole w) ∙ blocks-set es i w within
    ∙ ap (λ c. take i (blocks_of es) ++ c ∷ drop (i + 1) (blocks_of es)) is
