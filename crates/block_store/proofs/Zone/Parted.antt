use Rattle.block_store.proofs.Cited.{◌≡◌, ◌+◌, ◌-◌, zero, suc, true, false, ◌==◌, List, [], ◌∷◌, ◌++◌, refl, None, ◌∙◌, ap, arith, Some}
use Rattle.block_store.proofs.Cited.{nat_le, cond-true, cond-false, nat_tests, option_map, Block, Free, Nonrelocatable, Masters}
use Rattle.block_store.proofs.Cited.{Relocatable, size, sizes, add, tidy, raised, spot_at, is_free}
use Rattle.block_store.proofs.Zone.Apart.{Apart, apart-above, apart-size, apart-tidied, tidy-apart}
use Rattle.block_store.proofs.Zone.Joining.{apart-front}

-- A zone parted by a block that isn't Free.

-- such a block joins with none above it
add-solid : (b : Block) (bs : List Block) → is_free b ≡ false → add b bs ≡ b ∷ bs
add-solid (Free n) bs e = let f : true ≡ false = e in cc
add-solid (Nonrelocatable id content) bs e = refl
add-solid Masters bs e = refl
add-solid (Relocatable id flags content) bs e = refl

-- and nothing below it joins with what is above it
add-before : (c : Block) (below : List Block) (b : Block) (above : List Block) → is_free b ≡ false
    → add c (below ++ b ∷ above) ≡ add c below ++ b ∷ above
add-before (Free zero) below b above e = refl
add-before (Free (suc n)) [] (Free m) above e = let f : true ≡ false = e in cc
add-before (Free (suc n)) [] (Nonrelocatable id content) above e = refl
add-before (Free (suc n)) [] Masters above e = refl
add-before (Free (suc n)) [] (Relocatable id flags content) above e = refl
add-before (Free (suc n)) (Free m ∷ below) b above e = refl
add-before (Free (suc n)) (Nonrelocatable id content ∷ below) b above e = refl
add-before (Free (suc n)) (Masters ∷ below) b above e = refl
add-before (Free (suc n)) (Relocatable id flags content ∷ below) b above e = refl
add-before (Nonrelocatable id content) below b above e = refl
add-before Masters below b above e = refl
add-before (Relocatable id flags content) below b above e = refl

-- what is below such a block and what is above it are tidied by themselves
pub tidy-parted : (below : List Block) (b : Block) (above : List Block) → is_free b ≡ false
    → tidy (below ++ b ∷ above) ≡ tidy below ++ b ∷ tidy above
tidy-parted [] b above e = add-solid b (tidy above) e
tidy-parted (c ∷ below) b above e = ap (add c) (tidy-parted below b above e)
    ∙ add-before c (tidy below) b (tidy above) e

-- the block that stands above others is the one at the place where those end
pub spot_at-parted : (below : List Block) (b : Block) (above : List Block) → Apart (below ++ b ∷ above)
    → spot_at (sizes below) (below ++ b ∷ above) ≡ Some (record { below = below; here = b; above = above })
spot_at-parted [] b above a = refl
spot_at-parted (c ∷ below) b above a =
    let big = apart-size c (below ++ b ∷ above) a.0 in
    let n : sizes (c ∷ below) ≡ size c + sizes below = refl in
    cond-false (sizes (c ∷ below) == 0) _ _ (grind (arith, nat_tests))
    ∙ cond-true (nat_le (size c) (sizes (c ∷ below))) _ _ (grind (arith, nat_tests))
    ∙ ap (λ k. option_map (raised c) (spot_at k (below ++ b ∷ above)))
    (let z : sizes (c ∷ below) - size c ≡ sizes below = omega arith in z)
    ∙ ap (option_map (raised c)) (spot_at-parted below b above a.1)

-- no block stands at the place where all end
pub spot-end : (bs : List Block) → Apart bs → spot_at (sizes bs) bs ≡ None
spot-end [] a = refl
spot-end (c ∷ above) a =
    let big = apart-size c above a.0 in
    let n : sizes (c ∷ above) ≡ size c + sizes above = refl in
    cond-false (sizes (c ∷ above) == 0) _ _ (grind (arith, nat_tests))
    ∙ cond-true (nat_le (size c) (sizes (c ∷ above))) _ _ (grind (arith, nat_tests))
    ∙ ap (λ k. option_map (raised c) (spot_at k above))
    (let z : sizes (c ∷ above) - size c ≡ sizes above = omega arith in z)
    ∙ ap (option_map (raised c)) (spot-end above a.1)

-- a block that isn't Free in place of another such
pub tidy-renamed : (below : List Block) (b c : Block) (above : List Block) → is_free b ≡ false → is_free c ≡ false
    → tidy (below ++ b ∷ above) ≡ below ++ b ∷ above → tidy (below ++ c ∷ above) ≡ below ++ c ∷ above
tidy-renamed below b c above e f t =
    let a = apart-tidied (below ++ b ∷ above) t in
    tidy-parted below c above f
    ∙ (λ i. tidy-apart below (apart-front below (b ∷ above) a) i ++ c ∷ tidy-apart above
    (apart-above below (b ∷ above) a).1 i)
