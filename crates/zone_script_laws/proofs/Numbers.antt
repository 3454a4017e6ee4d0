use Rattle.zone_script_laws.proofs.Cited.{◌≡◌, ℕ, ◌+◌, ◌≤◌, ◌<◌, zero, suc, true, false, ◌==◌, List, [], ◌∷◌, ◌++◌, refl, ◌∙◌, cond, arith}
use Rattle.zone_script_laws.proofs.Cited.{replicate, ne_eqb, or_from, Decides-eqb, Block, Nonrelocatable, Masters, Relocatable, size, count}
use Rattle.zone_script_laws.proofs.Cited.{free, is_relocatable, is_nonrelocatable, is_masters, has, total-append, none-append, Part}
use Rattle.zone_script_laws.proofs.Cited.{Relocated, Fixed, Gap, numbered, block_of}
use Rattle.zone_script_laws.proofs.Fixed.{Stay}

-- The blocks of parts by their numbers.

-- the block of a part as it stands until all are made
abbrev pub held : ℕ → Part → Block
held n (Relocated master flags size) = Relocatable n (record flags { locked = true }) (replicate size 0)
held n (Fixed address size) = Nonrelocatable n (replicate size 0)
held n (Gap address size) = Nonrelocatable n (replicate size 0)

pub same-number : (n : ℕ) → (n == n) ≡ true
same-number n = (Decides-eqb n n).1 refl

pub other-number : (n k : ℕ) → n < k → (n == k) ≡ false
other-number n k less = ne_eqb n k (λ e. omega arith)

pub later-number : (n k : ℕ) → n < k → (k == n) ≡ false
later-number n k less = ne_eqb k n (λ e. omega arith)

-- no block has a number
pub record NoneHas (n : ℕ) (bs : List Block) : Type 0 where
  pub handle : has (is_relocatable n) bs ≡ false
  pub pointer : has (is_nonrelocatable n) bs ≡ false

-- from a number on
abbrev pub Below : ℕ → List Block → Type 0
Below n bs = (k : ℕ) → n ≤ k → NoneHas k bs

held-handle : (n k : ℕ) (p : Part) → (n == k) ≡ false → is_relocatable k (held n p) ≡ false
held-handle n k (Relocated master flags size) e = e
held-handle n k (Fixed address size) e = refl
held-handle n k (Gap address size) e = refl

held-pointer : (n k : ℕ) (p : Part) → (n == k) ≡ false → is_nonrelocatable k (held n p) ≡ false
held-pointer n k (Relocated master flags size) e = refl
held-pointer n k (Fixed address size) e = e
held-pointer n k (Gap address size) e = e

block-handle : (n k : ℕ) (p : Part) → (n == k) ≡ false → is_relocatable k (block_of n p) ≡ false
block-handle n k (Relocated master flags size) e = e
block-handle n k (Fixed address size) e = refl
block-handle n k (Gap address size) e = refl

block-pointer : (n k : ℕ) (p : Part) → (n == k) ≡ false → is_nonrelocatable k (block_of n p) ≡ false
block-pointer n k (Relocated master flags size) e = refl
block-pointer n k (Fixed address size) e = e
block-pointer n k (Gap address size) e = refl

pub below-held : (n : ℕ) (p : Part) (bs : List Block) → Below n bs → Below (suc n) (bs ++ held n p ∷ [])
below-held n p bs below k less =
    let e = other-number n k (omega arith) in
    let b = below k (omega arith) in
    record {
      handle = none-append (is_relocatable k) bs (held n p ∷ []) b.handle (or_from _ _ (held-handle n k p e) refl);
      pointer = none-append (is_nonrelocatable k) bs (held n p ∷ []) b.pointer (or_from _ _ (held-pointer n k p e) refl);
    }

pub below-block : (n : ℕ) (p : Part) (bs : List Block) → Below n bs → Below (suc n) (bs ++ block_of n p ∷ [])
below-block n p bs below k less =
    let e = other-number n k (omega arith) in
    let b = below k (omega arith) in
    record {
      handle = none-append (is_relocatable k) bs (block_of n p ∷ []) b.handle (or_from _ _ (block-handle n k p e) refl);
      pointer = none-append (is_nonrelocatable k) bs (block_of n p ∷ []) b.pointer (or_from _ _ (block-pointer n k p e) refl);
    }

pub below-masters : (n j : ℕ) → Below n (replicate j Masters)
below-masters n zero k less = record { handle = refl; pointer = refl }
below-masters n (suc j) k less = record { handle = (below-masters n j k less).handle; pointer = (below-masters n j k less).pointer }

-- blocks of later parts, and free bytes
pub later-held : (n k g : ℕ) (parts : List Part) → k < n → has (is_nonrelocatable k) (numbered held n parts ++ free g) ≡ false
later-held n k zero [] less = refl
later-held n k (suc g) [] less = refl
later-held n k g (p ∷ parts) less =
    or_from _ _ (held-pointer n k p (later-number k n less)) (later-held (suc n) k g parts (omega arith))

-- they stay
pub held-stays : (n : ℕ) (p : Part) → Stay (held n p ∷ [])
held-stays n (Relocated master flags size) = (refl, tt)
held-stays n (Fixed address size) = (refl, tt)
held-stays n (Gap address size) = (refl, tt)

pub masters-stay : (j : ℕ) → Stay (replicate j Masters)
masters-stay zero = tt
masters-stay (suc j) = (refl, masters-stay j)

-- how many are master pointer blocks
pub masters-held : (n : ℕ) (p : Part) (bs : List Block) → count is_masters (bs ++ held n p ∷ []) ≡ count is_masters bs
masters-held n p bs = total-append (λ b. cond (is_masters b) 1 0) bs (held n p ∷ []) ∙ cases p
  where
    cases : (p : Part) → count is_masters bs + count is_masters (held n p ∷ []) ≡ count is_masters bs
    cases (Relocated master flags size) = omega arith
    cases (Fixed address size) = omega arith
    cases (Gap address size) = omega arith

pub masters-free : (g : ℕ) (bs : List Block) → count is_masters (bs ++ free g) ≡ count is_masters bs
masters-free g bs = total-append (λ b. cond (is_masters b) 1 0) bs (free g) ∙ cases g
  where
    cases : (g : ℕ) → count is_masters bs + count is_masters (free g) ≡ count is_masters bs
    cases zero = omega arith
    cases (suc g) = omega arith

pub masters-many : (j : ℕ) → count is_masters (replicate j Masters) ≡ j
masters-many zero = refl
masters-many (suc j) = omega (arith, masters-many j)

pub all-stay : (n : ℕ) (parts : List Part) → Stay (numbered held n parts)
all-stay n [] = tt
all-stay n (p ∷ parts) = ((held-stays n p).0, all-stay (suc n) parts)
