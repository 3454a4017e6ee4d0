use Rattle.block_store.proofs.Cited.{◌≡◌, Bool, true, false, List, ◌∷◌, refl, cond, Block, Free, size, is_relocatable, opened, opened_block}
use Rattle.block_store.proofs.Cited.{Sparing}
use Rattle.block_store.specs.declared.sparing.Sparing.TheVariants as sparing

-- a search looks at one block, then at those above it
pub opened-more : (n : Sparing) (b : Block) (above : List Block)
    → opened n (b ∷ above) ≡ opened_block n b ∷ opened n above
opened-more sparing.Nothing b above = refl
opened-more (sparing.One slot) b above = refl
opened-more (sparing.Two slot other) b above = refl
opened-more (sparing.Freed slot) b above = refl

pub size-opened : (n : Sparing) (b : Block) → size (opened_block n b) ≡ size b
size-opened sparing.Nothing b = refl
size-opened (sparing.One slot) b = refl
size-opened (sparing.Two slot other) b = refl
size-opened (sparing.Freed slot) b = cases (is_relocatable slot b)
  where
    cases : (t : Bool) → size (cond t (Free (size b)) b) ≡ size b
    cases true = refl
    cases false = refl
