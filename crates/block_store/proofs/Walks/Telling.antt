-- What a walk over blocks told.
use Rattle.block_store.proofs.Cited.{◌≡◌, ◌+◌, List, [], ◌∷◌, refl, sym, ◌∙◌, ap, arith, Option, Some, None, none-some, same_Some, Block}
use Rattle.block_store.proofs.Cited.{Free, Nonrelocatable, Masters, Relocatable, size, sizes, seen, Tells, seen_size, Seen}

-- one block was told
pub record ReadBlock (before : List Block) (told : Seen) (after : List Block) : Type 0 where
  pub block : Block
  pub is : seen block ≡ told
  pub before_is : before ≡ block ∷ after

pub told : (before after : List Block) (answer : Option Seen) (s : Seen) → Tells before answer after → answer ≡ Some s
    → ReadBlock before s after
told [] after answer s t e = absurd (none-some s (sym t.0 ∙ e))
told (b ∷ above) after answer s t e = record {
  block = b;
  is = same_Some (seen b) s (sym t.0 ∙ e);
  before_is = ap (λ l. b ∷ l) (sym t.1);
}

pub told-none : (before after : List Block) (answer : Option Seen) → Tells before answer after → answer ≡ None
    → before ≡ []
told-none [] after answer t e = refl
told-none (b ∷ above) after answer t e = absurd (none-some (seen b) (sym e ∙ t.0))

pub size-seen : (b : Block) → seen_size (seen b) ≡ size b
size-seen (Free n) = refl
size-seen (Nonrelocatable id content) = refl
size-seen Masters = refl
size-seen (Relocatable id flags content) = refl

pub told-size : {before after : List Block} {s : Seen} (t : ReadBlock before s after) → seen_size s ≡ size t.block
told-size t = sym (ap seen_size t.is) ∙ size-seen t.block

pub told-sizes : {before after : List Block} {s : Seen} (t : ReadBlock before s after)
    → sizes before ≡ seen_size s + sizes after
told-sizes t = ap sizes t.before_is ∙ (let e = told-size t in omega (arith, e))
