-- A walk to a place, which keeps where the last Free block began.
use Rattle.zone_bytes.proofs.Cited.{◌≡◌, ℕ, ◌+◌, ◌-◌, ◌<◌, ◌≤◌, List, [], ◌∷◌, ◌++◌, length, sym, refl, ap, ◌∙◌, subst, arith, Block, size}
use Rattle.zone_bytes.proofs.Cited.{sizes, free_of, last_free, kind, Walk, LeadsUp, left_in, IsOnWay, tag_number, Header}
use Rattle.zone_bytes.proofs.Places.Stepped.{Stepped, stepped-read, left-is}
use Rattle.zone_bytes.proofs.Tiles.Heads.{IsRead}
use Rattle.zone_bytes.proofs.Joined.Above.{free-is, free-other}

-- what is left of blocks that end at a place, of which the last so far is Free from `start` to `at`
pub record LeftBelow (xs : List ℕ) (place at start : ℕ) (below above : List Block) : Type 0 where
  pub rest : List Block
  pub is : left_in at xs ≡ rest ++ above
  pub up : at + sizes rest ≡ place
  pub last : last_free (at - start) rest ≡ last_free 0 below

pub record Below (xs : List ℕ) (place at start : ℕ) : Type 0 where
  pub way : IsOnWay at xs
  pub ordered : (start ≤ at) × (at ≤ length xs)
  pub left : (below above : List Block) → left_in 0 xs ≡ below ++ above → sizes below ≡ place
      → LeftBelow xs place at start below above

-- what lies below a place is a front of what lies below a higher one, and the last block is the same
front-of : (n m : ℕ) (front rest below above : List Block) → front ++ rest ≡ below ++ above → sizes front < sizes below
    → (more : List Block) × (rest ≡ more ++ above) × (sizes front + sizes more ≡ sizes below)
    × (last_free m more ≡ last_free n below)
front-of n m front rest [] above e l = absurd (omega arith)
front-of n m [] rest (c ∷ below) above e l = (c ∷ below, e, omega arith, refl)
front-of n m (b ∷ front) rest (c ∷ below) above e l =
    let h : b ≡ c = cc in
    let t : front ++ rest ≡ below ++ above = cc in
    let r = front-of (free_of c) m front rest below above t (omega (arith, ap size h)) in
    (r.0, r.1, omega (arith, ap size h), r.3)

module _ (xs : List ℕ) (from place : ℕ) (u : LeadsUp from place xs) where
  far : (below above : List Block) → left_in 0 xs ≡ below ++ above → sizes below ≡ place → from < place
      → LeftBelow xs place from from below above
  far below above e l f =
      let r = front-of 0 (from - from) u.below (left_in from xs) below above (sym u.is ∙ e) (omega arith) in
      record { rest = r.0; is = r.1; up = omega arith; last = r.3 }

  pub below-from : place ≤ length xs → Below xs place from from
  below-from h = grind (arith, far)

module _ (xs : List ℕ) (place at start : ℕ) (b : Below xs place at start) where
  pub below-done : place ≤ at → (below above : List Block) → left_in 0 xs ≡ below ++ above → sizes below ≡ place
      → start + last_free 0 below ≡ place
  below-done l below above e s =
      next (b.left below above e s).rest (b.left below above e s).is (b.left below above e s).up
      (b.left below above e s).last
    where
      next : (rest : List Block) → left_in at xs ≡ rest ++ above → at + sizes rest ≡ place
          → last_free (at - start) rest ≡ last_free 0 below → start + last_free 0 below ≡ place
      next [] q u k = omega arith
      next (c ∷ rest) q u k = let m = (subst (Walk b.way.resource _ _) (sym (left-is _ _ b.way) ∙ q)
          b.way.walk).high.0.some in absurd (omega arith)

  -- one block more
  module _ (l : at < place) (i : at < length xs) (h : Header) (e : IsRead at xs h) where
    step : Stepped at xs h.size (tag_number h.tag)
    step = stepped-read at xs b.way i h e

    pub below-up : (at < at + h.size) × (at + h.size ≤ length xs)
    below-up = let s = step in omega arith

    below-next : (now : ℕ) → now ≤ at + h.size → ((c : Block) → h.size ≡ size c → tag_number h.tag ≡ kind c
        → at + h.size - now ≡ free_of c) → Below xs place (at + h.size) now
    below-next now w g = record {
      way = step.way;
      ordered = (w, below-up.1);
      left = λ below above q s. let d = b.left below above q s in next d.rest below above d.is d.up d.last;
    }
      where
        next : (rest below above : List Block) → left_in at xs ≡ rest ++ above → at + sizes rest ≡ place
            → last_free (at - start) rest ≡ last_free 0 below → LeftBelow xs place (at + h.size) now below above
        next [] below above q u v = absurd (omega arith)
        next (c ∷ rest) below above q u v = grind (arith, step)

    pub below-free : tag_number h.tag ≡ 0 → Below xs place (at + h.size) at
    below-free z = below-next at (omega arith) (λ c p q. omega (arith, p, ap free_of (free-is c (sym q ∙ z))))

    pub below-other : 0 < tag_number h.tag → Below xs place (at + h.size) (at + h.size)
    below-other z = below-next (at + h.size) (omega arith) (λ c p q. omega (arith, free-other))
