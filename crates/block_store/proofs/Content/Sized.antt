-- A block in the place of another, with what is left of the bytes of both and of the Free block above.
use Rattle.block_store.proofs.Cited.{◌≡◌, ℕ, ◌+◌, ◌-◌, ◌≤◌, ◌<◌, zero, suc, true, false, List, [], ◌∷◌, ◌++◌, length, refl, sym, ◌∙◌, ap}
use Rattle.block_store.proofs.Cited.{subst, arith, Some, Bool, cond, Block, Free, Nonrelocatable, Masters, Relocatable, size, free, free_of}
use Rattle.block_store.proofs.Cited.{free_sum, add, tidy, total, count, Spot, filled, grow_up, growth, is_free}
use Rattle.block_store.proofs.Zone.Tidy.{total-tidy}
use Rattle.block_store.proofs.Zone.Apart.{Apart, longer, more-apart, apart-above, apart-next, tidy-apart}
use Rattle.block_store.proofs.Zone.Totals.{total-append}
use Rattle.block_store.proofs.Regroup.Packed.{tidy-below}
use Rattle.block_store.proofs.Content.Resizing.{grown-is}
use Rattle.block_store.proofs.Zone.Joining.{stands}

-- what stood apart from some block stands apart from one that isn't Free
below-solid : (a b c : Block) → is_free c ≡ false → (bs cs : List Block) → add a (b ∷ bs) ≡ a ∷ b ∷ bs
    → add a (c ∷ cs) ≡ a ∷ c ∷ cs
below-solid (Free zero) b c e bs cs h = absurd (longer (Free zero) (b ∷ bs) h)
below-solid (Free (suc n)) b (Free m) e bs cs h = let f : true ≡ false = e in cc
below-solid (Free (suc n)) b (Nonrelocatable id content) e bs cs h = refl
below-solid (Free (suc n)) b Masters e bs cs h = refl
below-solid (Free (suc n)) b (Relocatable id flags content) e bs cs h = refl
below-solid (Nonrelocatable id content) b c e bs cs h = refl
below-solid Masters b c e bs cs h = refl
below-solid (Relocatable id flags content) b c e bs cs h = refl

-- a block that isn't Free in the place of another, below others that stand apart
pub apart-solid : (below : List Block) (b c : Block) (above now : List Block) → is_free c ≡ false
    → Apart (below ++ b ∷ above) → Apart now → Apart (below ++ c ∷ now)
apart-solid [] b c above now e a d = (stands c e now, d)
apart-solid (x ∷ []) b c above now e a d =
    (below-solid x b c e above now a.0, apart-solid [] b c above now e a.1 d)
apart-solid (x ∷ y ∷ below) b c above now e a d =
    (apart-next x y (below ++ b ∷ above) (below ++ c ∷ now) a.0, apart-solid (y ∷ below) b c above now e a.1 d)

-- no Free block comes first
abbrev pub Unjoined : List Block → Type 0
Unjoined rest = add (Free 1) rest ≡ Free 1 ∷ rest

pub unjoined-above : (n : ℕ) (above : List Block) → Apart (Free n ∷ above) → Unjoined above
unjoined-above n above a = more-apart 1 n (omega arith) above a.0

pub apart-free : (k : ℕ) (rest : List Block) → Unjoined rest → Apart rest → Apart (free k ++ rest)
apart-free zero rest u a = a
apart-free (suc k) rest u a = (more-apart (suc k) 1 (omega arith) rest u, a)

-- Free bytes below a Free block are one block with it
joined-free : (j m k : ℕ) (rest : List Block) → j + m ≡ k → Unjoined rest → Apart rest
    → tidy (Free j ∷ (free m ++ rest)) ≡ free k ++ rest
joined-free zero m k rest e u a =
    tidy-apart (free m ++ rest) (apart-free m rest u a) ∙ (let z : m ≡ k = omega (arith, e) in ap (λ n. free n
    ++ rest) z)
joined-free (suc j) zero k rest e u a =
    tidy-apart (Free (suc j) ∷ rest) (apart-free (suc j) rest u a)
    ∙ (let z : suc j ≡ k = omega (arith, e) in ap (λ n. free n ++ rest) z)
joined-free (suc j) (suc m) k rest e u a =
    ap (add (Free (suc j))) (tidy-apart (Free (suc m) ∷ rest) (apart-free (suc m) rest u a))
    ∙ (let z : suc j + suc m ≡ suc (j + suc m) = omega arith in ap (λ n. Free n ∷ rest) z)
    ∙ (let z : suc (j + suc m) ≡ k = omega (arith, e) in ap (λ n. free n ++ rest) z)

-- what is above begins with a Free block of m bytes, or with none where m is 0
pub record Heading (above : List Block) (m : ℕ) (rest : List Block) : Type 0 where
  pub is : above ≡ free m ++ rest
  pub unjoined : Unjoined rest

module _ (new : Block) (solid : is_free new ≡ false) (s : Spot) (tidied : Apart (s.below ++ s.here ∷ s.above)) (m : ℕ)
    (rest : List Block) (h : Heading s.above m rest) where
  -- the block with what is left of the bytes
  abbrev pub sized : List Block
  sized = s.below ++ new ∷ (free (size s.here + m - size new) ++ rest)

  apart-rest : Apart rest
  apart-rest = apart-above (free m) rest (subst Apart h.is (apart-above (s.here ∷ []) s.above
      (apart-above s.below (s.here ∷ s.above) tidied)))

  pub sized-tidy : tidy sized ≡ sized
  sized-tidy =
      let k = size s.here + m - size new in
      tidy-apart sized (apart-solid s.below s.here new s.above (free k ++ rest) solid tidied
      (apart-free k rest h.unjoined apart-rest))

  -- a block that is no larger
  pub cut-sized : size new ≤ size s.here → filled new s ≡ sized
  cut-sized le =
      let j = size s.here - size new in
      let k = size s.here + m - size new in
      let a : j + m ≡ k = omega (arith, le) in
      let b : tidy (Free j ∷ s.above) ≡ free k ++ rest =
      ap (λ l. tidy (Free j ∷ l)) h.is ∙ joined-free j m k rest a h.unjoined apart-rest in
      let c : tidy (free k ++ rest) ≡ free k ++ rest = tidy-apart (free k
      ++ rest) (apart-free k rest h.unjoined apart-rest)
      in
      tidy-below s.below (new ∷ Free j ∷ s.above) (new ∷ (free k ++ rest)) (ap (add new) (b ∙ sym c)) ∙ sized-tidy

  -- a larger one
  pub grown-sized : (after : List Block) → size s.here < size new → grow_up new s ≡ Some after → after ≡ sized
  grown-sized after more e =
      let is = grown-is new s after e in
      let same = first m rest is.0 is.1 (sym h.is ∙ is.2) h.unjoined in
      let k : is.0 - growth new s ≡ size s.here + m - size new = let z = same.0 in omega (arith, more, z) in
      sym is.4 ∙ ap (λ n. s.below ++ new ∷ (free n ++ is.1)) k
      ∙ ap (λ l. s.below ++ new ∷ (free (size s.here + m - size new) ++ l)) same.1
    where
      longer-by : (n l : ℕ) (bs : List Block) → Free n ∷ bs ≡ Free 1 ∷ Free l ∷ bs → ⊥
      longer-by n l bs e = let z : suc (length bs) ≡ suc (suc (length bs)) = ap length e in omega arith

      first : (m : ℕ) (rest : List Block) (n : ℕ) (others : List Block) → free m ++ rest ≡ Free n ∷ others
          → Unjoined rest
          → (n ≡ m) × (others ≡ rest)
      first zero rest n others e u = absurd (longer-by (1 + n) n others (subst Unjoined e u))
      first (suc m) rest n others e u = (cc, cc)

-- the Free bytes
pub free_sum-sized : (below : List Block) (new : Block) (k : ℕ) (rest : List Block) → is_free new ≡ false
    → free_sum (below ++ new ∷ (free k ++ rest)) ≡ free_sum below + (k + free_sum rest)
free_sum-sized below new k rest e =
    total-append free_of below (new ∷ (free k ++ rest)) ∙ ap (λ n. free_sum below + n) (here new e k)
  where
    left : (k : ℕ) → free_sum (free k ++ rest) ≡ k + free_sum rest
    left zero = omega arith
    left (suc k) = refl

    here : (b : Block) → is_free b ≡ false → (k : ℕ) → free_of b + free_sum (free k ++ rest) ≡ k + free_sum rest
    here (Free n) e k = let f : true ≡ false = e in cc
    here (Nonrelocatable id content) e k = let z = left k in omega arith
    here Masters e k = let z = left k in omega arith
    here (Relocatable id flags content) e k = let z = left k in omega arith

-- a count of blocks of which none is Free
pub total-sized : (of : Block → ℕ) → ((n : ℕ) → of (Free n) ≡ 0) → (below : List Block) (new : Block) (k : ℕ)
    (rest : List Block) → total of (below ++ new ∷ (free k ++ rest)) ≡ total of below + (of new + total of rest)
total-sized of none below new k rest =
    total-append of below (new ∷ (free k ++ rest)) ∙ ap (λ n. total of below + (of new + n)) (left k)
  where
    left : (k : ℕ) → total of (free k ++ rest) ≡ total of rest
    left zero = refl
    left (suc k) = let z = none (suc k) in omega arith

-- a block in the place of a Free one
module _ (new : Block) (solid : is_free new ≡ false) (s : Spot) (n : ℕ) (here : s.here ≡ Free n)
    (fits : size new ≤ n) where
  filled-total : (of : Block → ℕ) → ((n m : ℕ) → of (Free (n + m)) ≡ of (Free n) + of (Free m))
      → total of (filled new s) ≡ total of s.below + (of new + (of (Free (n - size new)) + total of s.above))
  filled-total of adds =
      total-tidy of adds (s.below ++ new ∷ Free (size s.here - size new) ∷ s.above)
      ∙ ap (λ b. total of (s.below ++ new ∷ Free (size b - size new) ∷ s.above)) here
      ∙ total-append of s.below (new ∷ Free (n - size new) ∷ s.above)

  whole-total : (of : Block → ℕ) → total of (s.below
      ++ s.here ∷ s.above) ≡ total of s.below + (of (Free n) + total of s.above)
  whole-total of = ap (λ b. total of (s.below ++ b ∷ s.above)) here ∙ total-append of s.below (Free n ∷ s.above)

  none-of : (b : Block) → is_free b ≡ false → free_of b ≡ 0
  none-of (Free n) e = let f : true ≡ false = e in cc
  none-of (Nonrelocatable id content) e = refl
  none-of Masters e = refl
  none-of (Relocatable id flags content) e = refl

  -- its bytes were Free
  pub filled-free : free_sum (filled new s) + size new ≡ free_sum (s.below ++ s.here ∷ s.above)
  filled-free =
      let a = filled-total free_of (λ n m. refl) in
      let b = whole-total free_of in
      let c = none-of new solid in
      omega (arith, a, b, c, fits)

  -- and it counts where no Free block does
  pub filled-count : (test : Block → Bool) → ((n : ℕ) → test (Free n) ≡ false)
      → count test (filled new s) ≡ count test (s.below ++ s.here ∷ s.above) + cond (test new) 1 0
  filled-count test none =
      let of : Block → ℕ = λ b. cond (test b) 1 0 in
      let z : (n : ℕ) → of (Free n) ≡ 0 = λ n. ap (λ v. cond v 1 0) (none n) in
      let a = filled-total of (λ n m. z (n + m) ∙ (let p = z n in let q = z m in omega arith)) in
      let b = whole-total of in
      let p = z (n - size new) in
      let q = z n in
      omega (arith, a, b, p, q)
