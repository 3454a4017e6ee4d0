use Rattle.block_store.proofs.Cited.{◌≡◌, ℕ, ◌+◌, ◌≤◌, zero, suc, List, [], ◌∷◌, length, refl, ◌∙◌, ap, cond, arith, max, if◌then◌else◌}
use Rattle.block_store.proofs.Cited.{Block, Free, Nonrelocatable, Masters, Relocatable, size, free_of, free_sum, add, tidy, Sparing}
use Rattle.block_store.proofs.Cited.{lowest_purged, spared, opened, purged, is_free, largest_free}
use Rattle.block_store.proofs.Zone.Tidy.{total-tidy, add-joined}
use Rattle.block_store.proofs.Zone.Apart.{Apart, apart-tidy}
use Rattle.block_store.proofs.Purged.Looks.{top_free}

-- The Free bytes of blocks of which the lowest that may go are purged.

-- the Free bytes, as a search looks at blocks with so many purges left
abbrev pub free_from : ℕ → Sparing → List Block → ℕ
free_from left n bs = free_sum (lowest_purged left (spared n) (opened n bs))

-- the Free bytes after k purges are those of the purged blocks
pub free-purged : (n : Sparing) (k : ℕ) (zone : List Block) → free_sum (purged k n zone)
    ≡ free_sum (lowest_purged k (spared n) (opened n zone))
free-purged n k zone = total-tidy free_of (λ n m. refl) (lowest_purged k (spared n) (opened n zone))

-- the bytes of the largest stretch of Free blocks, where the lowest one has so many below
abbrev pub largest_stretch : ℕ → List Block → ℕ
largest_stretch free [] = free
largest_stretch free (b ∷ above) = if is_free b then largest_stretch (free + size b) above
    else max free (largest_stretch 0 above)

-- Free blocks that are made one are the same stretch
largest_stretch-add : (free : ℕ) (b : Block) (bs : List Block)
    → largest_stretch free (add b bs) ≡ largest_stretch free (b ∷ bs)
largest_stretch-add free = add-joined (largest_stretch free)
    (λ bs. ap (λ n. largest_stretch n bs) (let z : free + 0 ≡ free = omega arith in z))
    (λ n m bs. ap (λ k. largest_stretch k bs) (let z : free + (n + m) ≡ free + n + m = omega arith in z))

pub largest_stretch-tidy : (free : ℕ) (bs : List Block) → largest_stretch free (tidy bs) ≡ largest_stretch free bs
largest_stretch-tidy free [] = refl
largest_stretch-tidy free (b ∷ bs) =
    largest_stretch-add free b (tidy bs)
    ∙ ap (λ n. cond (is_free b) n (max free (largest_stretch 0 (tidy bs)))) (largest_stretch-tidy (free + size b) bs)
    ∙ ap (λ n. cond (is_free b) (largest_stretch (free + size b) bs) (max free n)) (largest_stretch-tidy 0 bs)

-- the lowest block has no more Free bytes than the largest
top_free-largest : (bs : List Block) → top_free bs ≤ largest_free bs
top_free-largest [] = omega arith
top_free-largest (Free n ∷ bs) = omega arith
top_free-largest (Nonrelocatable id content ∷ bs) = omega arith
top_free-largest (Masters ∷ bs) = omega arith
top_free-largest (Relocatable id flags content ∷ bs) = omega arith

-- above a Free block that stands apart there is none
pub apart-top_free : (n : ℕ) (bs : List Block) → add (Free n) bs ≡ Free n ∷ bs → top_free bs ≡ 0
apart-top_free n [] e = refl
apart-top_free zero (Free m ∷ bs) e = absurd (let l : suc (length bs) ≡ suc (suc (length bs)) = ap length e in
    omega arith)
apart-top_free (suc n) (Free m ∷ bs) e = absurd (let l : suc (length bs) ≡ suc (suc (length bs)) = ap length e in
    omega arith)
apart-top_free n (Nonrelocatable id content ∷ bs) e = refl
apart-top_free n (Masters ∷ bs) e = refl
apart-top_free n (Relocatable id flags content ∷ bs) e = refl

-- in blocks that stand apart, each Free block is a stretch
largest_stretch-apart : (free : ℕ) (bs : List Block) → Apart bs
    → largest_stretch free bs ≡ max (free + top_free bs) (largest_free bs)
largest_stretch-apart free [] apart = omega arith
largest_stretch-apart free (Free n ∷ bs) apart = omega (
  arith,
  largest_stretch-apart (free + n) bs apart.1,
  apart-top_free n bs apart.0,
)
largest_stretch-apart free (Nonrelocatable id content ∷ bs) apart = omega
    (arith, largest_stretch-apart 0 bs apart.1, top_free-largest bs)
largest_stretch-apart free (Masters ∷ bs) apart = omega (arith, largest_stretch-apart 0 bs apart.1, top_free-largest bs)
largest_stretch-apart free (Relocatable id flags content ∷ bs) apart =
    omega (arith, largest_stretch-apart 0 bs apart.1, top_free-largest bs)

-- the largest stretch is the largest Free block after k purges
pub largest-purged : (n : Sparing) (k : ℕ) (zone : List Block)
    → largest_free (purged k n zone) ≡ largest_stretch 0 (lowest_purged k (spared n) (opened n zone))
largest-purged n k zone =
    let blocks = lowest_purged k (spared n) (opened n zone) in
    (let z : largest_free (purged k n zone) ≡ largest_stretch 0 (purged k n zone) = omega
    (arith, largest_stretch-apart 0 (purged k n zone) (apart-tidy blocks), top_free-largest (purged k n zone)) in z)
    ∙ largest_stretch-tidy 0 blocks

-- the largest stretch, as a search looks at blocks with so many purges left
abbrev pub largest_from : ℕ → ℕ → Sparing → List Block → ℕ
largest_from free left n bs = largest_stretch free (lowest_purged left (spared n) (opened n bs))
