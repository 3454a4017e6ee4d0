use Rattle.block_store.proofs.Cited.{◌≡◌, ℕ, ◌+◌, ◌<◌, zero, suc, true, false, List, [], ◌∷◌, ◌++◌, length, refl, ◌∙◌, ap, subst, arith}
use Rattle.block_store.proofs.Cited.{Block, Free, Nonrelocatable, Masters, Relocatable, size, free, add, tidy, with_content, in_run}

-- each block stands apart from the next: it takes bytes, and isn't a Free one below a Free one
abbrev pub Apart : List Block → Type 0
Apart [] = Unit {0}
Apart (b ∷ above) = (add b above ≡ b ∷ above) × Apart above

-- a list isn't itself with one block more
pub longer : (b : Block) (bs : List Block) → bs ≡ b ∷ bs → ⊥
longer b bs e = let n : length bs ≡ suc (length bs) = ap length e in omega arith

pub two : (b c d : Block) (bs : List Block) → b ∷ bs ≡ c ∷ d ∷ bs → ⊥
two b c d bs e = let n : suc (length bs) ≡ suc (suc (length bs)) = ap length e in omega arith

pub more-apart : (k m : ℕ) → 0 < k → (bs : List Block) → add (Free m) bs ≡ Free m ∷ bs → add (Free k) bs ≡ Free k ∷ bs
more-apart zero m some bs e = absurd (let z : 0 < 0 = some in omega arith)
more-apart (suc k) m some [] e = refl
more-apart (suc k) zero some (Free l ∷ bs) e = absurd (longer (Free zero) (Free l ∷ bs) e)
more-apart (suc k) (suc m) some (Free l ∷ bs) e = absurd (two (Free (suc m + l)) (Free (suc m)) (Free l) bs e)
more-apart (suc k) m some (Nonrelocatable id content ∷ bs) e = refl
more-apart (suc k) m some (Masters ∷ bs) e = refl
more-apart (suc k) m some (Relocatable id flags content ∷ bs) e = refl

apart-add : (b : Block) (bs : List Block) → Apart bs → Apart (add b bs)
apart-add (Free zero) bs a = a
apart-add (Free (suc n)) [] a = (refl, tt)
apart-add (Free (suc n)) (Free m ∷ bs) a = (more-apart (suc n + m) m (omega arith) bs a.0, a.1)
apart-add (Free (suc n)) (Nonrelocatable id content ∷ bs) a = (refl, a)
apart-add (Free (suc n)) (Masters ∷ bs) a = (refl, a)
apart-add (Free (suc n)) (Relocatable id flags content ∷ bs) a = (refl, a)
apart-add (Nonrelocatable id content) bs a = (refl, a)
apart-add Masters bs a = (refl, a)
apart-add (Relocatable id flags content) bs a = (refl, a)

pub apart-tidy : (bs : List Block) → Apart (tidy bs)
apart-tidy [] = tt
apart-tidy (b ∷ bs) = apart-add b (tidy bs) (apart-tidy bs)

pub tidy-apart : (bs : List Block) → Apart bs → tidy bs ≡ bs
tidy-apart [] a = refl
tidy-apart (b ∷ bs) a = ap (add b) (tidy-apart bs a.1) ∙ a.0

pub tidy-tidy : (bs : List Block) → tidy (tidy bs) ≡ tidy bs
tidy-tidy bs = tidy-apart (tidy bs) (apart-tidy bs)

pub apart-tidied : (bs : List Block) → tidy bs ≡ bs → Apart bs
apart-tidied bs e = subst Apart e (apart-tidy bs)

-- a block that stands apart takes bytes
pub apart-size : (b : Block) (above : List Block) → add b above ≡ b ∷ above → 0 < size b
apart-size (Free zero) above e = absurd (longer (Free zero) above e)
apart-size (Free (suc n)) above e = omega arith
apart-size (Nonrelocatable id content) above e = omega arith
apart-size Masters above e = omega arith
apart-size (Relocatable id flags content) above e = omega arith

-- another content leaves blocks apart
below-content : (x : List ℕ) (a b : Block) (above : List Block) → add a (b ∷ above) ≡ a ∷ b ∷ above
    → add a (with_content x b ∷ above) ≡ a ∷ with_content x b ∷ above
below-content x a (Free n) above e = e
below-content x (Free zero) (Nonrelocatable id content) above e = absurd (longer (Free zero) (Nonrelocatable id content ∷ above) e)
below-content x (Free (suc n)) (Nonrelocatable id content) above e = refl
below-content x (Nonrelocatable k old) (Nonrelocatable id content) above e = refl
below-content x Masters (Nonrelocatable id content) above e = refl
below-content x (Relocatable k flags old) (Nonrelocatable id content) above e = refl
below-content x a Masters above e = e
below-content x (Free zero) (Relocatable id flags content) above e =
    absurd (longer (Free zero) (Relocatable id flags content ∷ above) e)
below-content x (Free (suc n)) (Relocatable id flags content) above e = refl
below-content x (Nonrelocatable k old) (Relocatable id flags content) above e = refl
below-content x Masters (Relocatable id flags content) above e = refl
below-content x (Relocatable k flags' old) (Relocatable id flags content) above e = refl

here-content : (x : List ℕ) (b : Block) (above : List Block) → add b above ≡ b ∷ above
    → add (with_content x b) above ≡ with_content x b ∷ above
here-content x (Free n) above e = e
here-content x (Nonrelocatable id content) above e = refl
here-content x Masters above e = refl
here-content x (Relocatable id flags content) above e = refl

-- whether a block stands apart hangs on the next only
pub apart-next : (c d : Block) (l m : List Block) → add c (d ∷ l) ≡ c ∷ d ∷ l → add c (d ∷ m) ≡ c ∷ d ∷ m
apart-next (Free zero) d l m e = absurd (longer (Free zero) (d ∷ l) e)
apart-next (Free (suc n)) (Free k) l m e = absurd (two (Free (suc n + k)) (Free (suc n)) (Free k) l e)
apart-next (Free (suc n)) (Nonrelocatable id content) l m e = refl
apart-next (Free (suc n)) Masters l m e = refl
apart-next (Free (suc n)) (Relocatable id flags content) l m e = refl
apart-next (Nonrelocatable id content) d l m e = refl
apart-next Masters d l m e = refl
apart-next (Relocatable id flags content) d l m e = refl

apart-content : (x : List ℕ) (below : List Block) (b : Block) (above : List Block) → Apart (below ++ b ∷ above)
    → Apart (below ++ with_content x b ∷ above)
apart-content x [] b above a = (here-content x b above a.0, a.1)
apart-content x (c ∷ []) b above a = (below-content x c b above a.0, (here-content x b above a.1.0, a.1.1))
apart-content x (c ∷ d ∷ below) b above a = (
  apart-next c d (below ++ b ∷ above) (below ++ with_content x b ∷ above)
      a.0,
  apart-content x (d ∷ below) b above a.1,
)

pub tidy-content : (x : List ℕ) (below : List Block) (b : Block) (above : List Block)
    → tidy (below ++ b ∷ above) ≡ below ++ b ∷ above → tidy (below ++ with_content x b ∷ above) ≡ below
    ++ with_content x b ∷ above
tidy-content x below b above e = tidy-apart (below ++ with_content x b ∷ above)
    (apart-content x below b above (apart-tidied (below ++ b ∷ above) e))

pub free-apart : (n : ℕ) → 0 < n → tidy (Free n ∷ []) ≡ Free n ∷ []
free-apart zero some = absurd (let z : 0 < 0 = some in omega arith)
free-apart (suc n) some = refl

-- a Free block above one that isn't Free may be smaller, or go
pub apart-shrunk : (below : List Block) (b : Block) (m k : ℕ) (above : List Block)
    → ((bs : List Block) → add b bs ≡ b ∷ bs) → Apart (below ++ b ∷ Free m ∷ above)
    → Apart (below ++ b ∷ (free k ++ above))
apart-shrunk [] b m zero above stands a = (stands above, a.1.1)
apart-shrunk [] b m (suc k) above stands a = (
  stands (Free (suc k) ∷ above),
  (more-apart (suc k) m (omega arith) above a.1.0, a.1.1),
)
apart-shrunk (c ∷ []) b m k above stands a = (
  apart-next c b (Free m ∷ above) (free k ++ above) a.0,
  apart-shrunk [] b m
      k above stands a.1,
)
apart-shrunk (c ∷ d ∷ below) b m k above stands a = (
  apart-next c d (below ++ b ∷ Free m ∷ above)
      (below ++ b ∷ (free k ++ above)) a.0,
  apart-shrunk (d ∷ below) b m k above stands a.1,
)

-- a block that ends a run joins with none above it
pub barrier-alone : (b : Block) (above : List Block) → in_run b ≡ false → add b above ≡ b ∷ above
barrier-alone (Free n) above e = let f : true ≡ false = e in cc
barrier-alone (Nonrelocatable id content) above e = refl
barrier-alone Masters above e = refl
barrier-alone (Relocatable id flags content) above e = refl

pub apart-above : (below above : List Block) → Apart (below ++ above) → Apart above
apart-above [] above a = a
apart-above (b ∷ below) above a = apart-above below above a.1
