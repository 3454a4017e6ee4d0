-- Free neighbours that are made one.
use Rattle.block_store.proofs.Cited.{◌≡◌, ℕ, ◌+◌, ◌<◌, zero, suc, false, List, [], ◌∷◌, ◌++◌, refl, sym, ◌∙◌, ap, subst, arith}
use Rattle.block_store.proofs.Cited.{append_assoc, false≢true, Block, Free, Nonrelocatable, Masters, Relocatable, free, add, tidy, is_free}
use Rattle.block_store.proofs.Cited.{last_free, Closed}
use Rattle.block_store.proofs.Zone.Apart.{Apart, longer, two, apart-next, apart-tidied, apart-tidy, tidy-apart}
use Rattle.block_store.proofs.Zone.Spots.{free-some}
use Rattle.block_store.proofs.Regroup.Packed.{tidy-below, tidy-free}

-- two Free blocks are one
pub add-twice : (g n : ℕ) (bs : List Block) → add (Free (suc g)) (add (Free (suc n)) bs) ≡ add (Free (suc (g + suc n))) bs
add-twice g n [] = let e : suc g + suc n ≡ suc (g + suc n) = omega arith in ap (λ k. Free k ∷ []) e
add-twice g n (Free m ∷ bs) =
    let e : suc g + (suc n + m) ≡ suc (g + suc n) + m = omega arith in ap (λ k. Free k ∷ bs) e
add-twice g n (Nonrelocatable id content ∷ bs) =
    let e : suc g + suc n ≡ suc (g + suc n) = omega arith in ap (λ k. Free k ∷ Nonrelocatable id content ∷ bs) e
add-twice g n (Masters ∷ bs) =
    let e : suc g + suc n ≡ suc (g + suc n) = omega arith in ap (λ k. Free k ∷ Masters ∷ bs) e
add-twice g n (Relocatable id flags content ∷ bs) =
    let e : suc g + suc n ≡ suc (g + suc n) = omega arith in ap (λ k. Free k ∷ Relocatable id flags content ∷ bs) e

-- Free bytes below a Free block are one with it
pub joined-free : (g n : ℕ) (above : List Block) → tidy (free g ++ Free n ∷ above) ≡ tidy (free (g + n) ++ above)
joined-free zero n above = tidy-free n above ∙ (let e : n ≡ 0 + n = omega arith in ap (λ k. tidy (free k ++ above)) e)
joined-free (suc g) zero above = let e : suc g ≡ suc g + 0 = omega arith in ap (λ k. tidy (free k ++ above)) e
joined-free (suc g) (suc n) above =
    let e : suc (g + suc n) ≡ suc g + suc n = omega arith in
    add-twice g n (tidy above) ∙ ap (λ k. tidy (free k ++ above)) e

pub joined-below : (below : List Block) (g n : ℕ) (above : List Block)
    → tidy (below ++ (free g ++ Free n ∷ above)) ≡ tidy (below ++ (free (g + n) ++ above))
joined-below below g n above =
    tidy-below below (free g ++ Free n ∷ above) (free (g + n) ++ above) (joined-free g n above)

-- a block that isn't Free stands apart from any
pub stands : (b : Block) → is_free b ≡ false → (bs : List Block) → add b bs ≡ b ∷ bs
stands (Free n) e bs = absurd (false≢true (sym e))
stands (Nonrelocatable id content) e bs = refl
stands Masters e bs = refl
stands (Relocatable id flags content) e bs = refl

-- above blocks that don't end with a Free one any may stand
pub closed-apart : (below above : List Block) → Apart below → Closed below → Apart above → Apart (below ++ above)
closed-apart [] above a c h = h
closed-apart (b ∷ []) above a c h = (stands b c above, h)
closed-apart (b ∷ d ∷ below) above a c h =
    (apart-next b d below (below ++ above) a.0, closed-apart (d ∷ below) above a.1 c h)

pub closed-more : (below : List Block) (b : Block) → is_free b ≡ false → Closed (below ++ b ∷ [])
closed-more [] b e = e
closed-more (c ∷ []) b e = e
closed-more (c ∷ d ∷ below) b e = closed-more (d ∷ below) b e

free-one : (g : ℕ) (b : Block) → is_free b ≡ false → Apart (free g ++ b ∷ [])
free-one zero b e = (stands b e [], tt)
free-one (suc g) (Free n) e = absurd (false≢true (sym e))
free-one (suc g) (Nonrelocatable id content) e = (refl, (refl, tt))
free-one (suc g) Masters e = (refl, (refl, tt))
free-one (suc g) (Relocatable id flags content) e = (refl, (refl, tt))

-- tidy blocks that don't end with a Free one, with Free bytes and a block that isn't Free above them
pub closed-tidy : (below : List Block) (g : ℕ) (b : Block) → tidy below ≡ below → Closed below → is_free b ≡ false
    → (tidy (below ++ (free g ++ b ∷ [])) ≡ below ++ (free g ++ b ∷ [])) × Closed (below ++ (free g ++ b ∷ []))
closed-tidy below g b t c e = (
  tidy-apart (below ++ (free g ++ b ∷ []))
      (closed-apart below (free g ++ b ∷ []) (apart-tidied below t) c (free-one g b e)),
  subst Closed (append_assoc below (free g) (b ∷ [])) (closed-more (below ++ free g) b e),
)

-- with Free bytes alone
pub closed-free : (below : List Block) (g : ℕ) → tidy below ≡ below → Closed below
    → tidy (below ++ free g) ≡ below ++ free g
closed-free below g t c = tidy-apart (below ++ free g) (closed-apart below (free g) (apart-tidied below t) c (apart g))
  where
    apart : (g : ℕ) → Apart (free g)
    apart zero = tt
    apart (suc g) = (refl, tt)

-- with a Free block that is joined with what is above it
pub closed-joined : (below : List Block) (n : ℕ) (above : List Block) → tidy below ≡ below → Closed below
    → tidy above ≡ above
    → tidy (below ++ Free n ∷ above) ≡ below ++ add (Free n) above
closed-joined below n above t c u =
    let one : tidy (Free n ∷ above) ≡ add (Free n) above = ap (add (Free n)) u in
    let a = subst Apart one (apart-tidy (Free n ∷ above)) in
    tidy-below below (Free n ∷ above) (add (Free n) above) (one ∙ sym (tidy-apart (add (Free n) above) a))
    ∙ tidy-apart (below ++ add (Free n) above) (closed-apart below (add (Free n) above) (apart-tidied below t) c a)

-- tidy blocks are some that don't end with a Free one, and the Free bytes above those
pub record Ending (blocks : List Block) : Type 0 where
  pub lower : List Block
  pub is : blocks ≡ lower ++ free (last_free 0 blocks)
  pub closed : Closed lower
  pub apart : Apart lower

not_free : (b : Block) (n : ℕ) (bs : List Block) → add b (Free n ∷ bs) ≡ b ∷ Free n ∷ bs → is_free b ≡ false
not_free (Free zero) n bs e = absurd (longer (Free zero) (Free n ∷ bs) e)
not_free (Free (suc k)) n bs e = absurd (two (Free (suc k + n)) (Free (suc k)) (Free n) bs e)
not_free (Nonrelocatable id content) n bs e = refl
not_free Masters n bs e = refl
not_free (Relocatable id flags content) n bs e = refl

ending-more : (b c : Block) (blocks : List Block) → Apart (b ∷ c ∷ blocks) → (k : ℕ) (lower : List Block)
    → c ∷ blocks ≡ lower ++ free k → Closed lower → Apart lower → Closed (b ∷ lower) × Apart (b ∷ lower)
ending-more b c blocks a zero [] e d l = absurd (let f : c ∷ blocks ≡ [] = e in cc)
ending-more b c blocks a (suc k) [] e d l =
    let n = not_free b (suc k) [] (subst (λ q. add b q ≡ b ∷ q) e a.0) in
    (n, (stands b n [], tt))
ending-more b c blocks a k (x ∷ lower) e d l =
    (d, (apart-next b x (lower ++ free k) lower (subst (λ q. add b q ≡ b ∷ q) e a.0), l))

pub ending : (blocks : List Block) → Apart blocks → Ending blocks
ending [] a = record { lower = []; is = refl; closed = tt; apart = tt }
ending (Free zero ∷ []) a = absurd (longer (Free zero) [] a.0)
ending (Free (suc n) ∷ []) a = record { lower = []; is = refl; closed = tt; apart = tt }
ending (Nonrelocatable id content ∷ []) a = record { lower = Nonrelocatable id content ∷ []; is = refl; closed = refl; apart = a }
ending (Masters ∷ []) a = record { lower = Masters ∷ []; is = refl; closed = refl; apart = a }
ending (Relocatable id flags content ∷ []) a =
    record { lower = Relocatable id flags content ∷ []; is = refl; closed = refl; apart = a }
ending (b ∷ c ∷ blocks) a =
    let r = ending (c ∷ blocks) a.1 in
    let m = ending-more b c blocks a (last_free 0 (c ∷ blocks)) r.lower r.is r.closed r.apart in
    record { lower = b ∷ r.lower; is = ap (λ q. b ∷ q) r.is; closed = m.0; apart = m.1 }

alone : (b : Block) (bs : List Block) → add b bs ≡ b ∷ bs → add b [] ≡ b ∷ []
alone (Free zero) bs e = absurd (longer (Free zero) bs e)
alone (Free (suc n)) bs e = refl
alone (Nonrelocatable id content) bs e = refl
alone Masters bs e = refl
alone (Relocatable id flags content) bs e = refl

pub apart-front : (below above : List Block) → Apart (below ++ above) → Apart below
apart-front [] above a = tt
apart-front (b ∷ []) above a = (alone b above a.0, tt)
apart-front (b ∷ c ∷ below) above a = (apart-next b c (below ++ above) below a.0, apart-front (c ∷ below) above a.1)

-- a Free block below others
pub add-alone : (n : ℕ) → 0 < n → add (Free n) [] ≡ Free n ∷ []
add-alone zero some = absurd (let z : 0 < 0 = some in omega arith)
add-alone (suc n) some = refl

pub add-free : (n m : ℕ) (above : List Block) → 0 < n → add (Free n) (Free m ∷ above) ≡ Free (n + m) ∷ above
add-free zero m above some = absurd (let z : 0 < 0 = some in omega arith)
add-free (suc n) m above some = refl

pub add-other : (n : ℕ) (b : Block) (above : List Block) → 0 < n → is_free b ≡ false
    → add (Free n) (b ∷ above) ≡ Free n ∷ b ∷ above
add-other zero b above some e = absurd (let z : 0 < 0 = some in omega arith)
add-other (suc n) (Free m) above some e = absurd (false≢true (sym e))
add-other (suc n) (Nonrelocatable id content) above some e = refl
add-other (suc n) Masters above some e = refl
add-other (suc n) (Relocatable id flags content) above some e = refl

-- a block of a tidy zone that becomes Free
pub released-tidy : (below lower : List Block) (g n : ℕ) (above : List Block) → 0 < n → below ≡ lower ++ free g
    → Apart lower → Closed lower → tidy above ≡ above
    → tidy (below ++ Free n ∷ above) ≡ lower ++ add (Free (g + n)) above
released-tidy below lower g n above some e a c u =
    ap (λ k. tidy (k ++ Free n ∷ above)) e ∙ ap tidy (append_assoc lower (free g) (Free n ∷ above))
    ∙ joined-below lower g n above
    ∙ ap (λ k. tidy (lower ++ (k ++ above))) (free-some (g + n) (let z : 0 < g + n = omega (arith, some) in z))
    ∙ closed-joined lower (g + n) above (tidy-apart lower a) c u

-- what is below a Free block of a tidy zone doesn't end with one
pub closed-under : (below : List Block) (n : ℕ) (above : List Block) → Apart (below ++ Free n ∷ above) → Closed below
closed-under [] n above a = tt
closed-under (b ∷ []) n above a = not_free b n above a.0
closed-under (b ∷ c ∷ below) n above a = closed-under (c ∷ below) n above a.1
