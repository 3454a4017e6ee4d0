-- Landmarks where a block changes in place, and where one is put into a Free block.
use Rattle.zone_marks.proofs.Cited.{◌≡◌, ℕ, ◌+◌, ◌≤◌, ◌<◌, List, [], ◌∷◌, ◌++◌, sym, refl, ap, ◌∙◌, arith, zero, suc, append_assoc, Block}
use Rattle.zone_marks.proofs.Cited.{Free, size, sizes, free, free_of, add, free_first, Became, Replaced, AreMarks, between, next_of}
use Rattle.zone_marks.proofs.Cited.{Landmark, one, space, span-append, span-free}
use Rattle.zone_marks.proofs.Marks.Passing.{begins-either, begins-left, begins-right, at-other}
use Rattle.zone_marks.proofs.Marks.Between.{between-append, CountAlike, alike-as}
use Rattle.zone_marks.proofs.Stretches.Monoid.{stretch_by-append}

tally-same : (lo hi : ℕ) (below above : List Block) (b c : Block) → size c ≡ size b → one c ≡ one b → space c ≡ space b
    → CountAlike (between lo hi 0 (below ++ c ∷ above)) (between lo hi 0 (below ++ b ∷ above))
tally-same lo hi below above b c s f r =
    let e = first (0 + sizes below) in grind (arith, between-append, stretch_by-append)
  where
    first : (x : ℕ) → CountAlike (between lo hi x (c ∷ above)) (between lo hi x (b ∷ above))
    first x = grind arith

-- a block became one of as many bytes, of which as many are Free, and that comes to the same in runs and in spaces
pub marks-same : (end : ℕ) (marks : List Landmark) (below above : List Block) (b c : Block) → size c ≡ size b
    → free_of c ≡ free_of b → one c ≡ one b → space c ≡ space b → AreMarks end (below ++ b ∷ above) marks
    → AreMarks end (below ++ c ∷ above) marks
marks-same end [] below above b c s f r g a = tt
marks-same end (m ∷ marks) below above b c s f r g a = (
  record {
    begins = let d = begins-either m.at 0 below (b ∷ above) a.0.begins in grind (arith, begins-left, begins-right);
    most = at-other _ 0 below above b c s (λ p r l h. omega (arith, r l h)) a.0.most;
    tells = alike-as m.tally _ _ (tally-same m.at (next_of end marks) below above b c s r g) a.0.tells;
    order = a.0.order;
  },
  marks-same end marks below above b c s f r g a.1,
)

-- a block became one of as many bytes
pub became-replaced : (place bytes : ℕ) (old new : List Block) (b : Became place old new) → bytes ≡ size b.there
    → Replaced place (place + bytes) old new
became-replaced place bytes old new b e = record {
  below = b.below;
  here = b.here ∷ [];
  there = b.there ∷ [];
  above = b.above;
  was = b.was;
  is = b.is;
  low = b.low;
  high = omega arith;
  span = omega arith;
}

-- nothing was changed
pub same-replaced : (zone new : List Block) → new ≡ zone → Replaced 0 0 zone new
same-replaced zone new e =
    record { below = []; here = []; there = []; above = zone; was = refl; is = e; low = refl; high = refl; span = refl }

-- a block became Free, and one with its Free neighbours
pub joined-replaced : (lower : List Block) (g : ℕ) (here : Block) (above : List Block) (start top n : ℕ)
    (old new : List Block) → old ≡ lower ++ (free g ++ here ∷ above) → new ≡ lower ++ add (Free n) above
    → n ≡ g + size here → 0 < n → sizes lower ≡ start → top ≡ start + n + free_first above → Replaced start top old new
joined-replaced lower g here above start top zero old new was is e some low up = absurd (omega arith)
joined-replaced lower g here above start top (suc n) old new was is e some low up = joined above was is up
  where
    joined-with : (more rest : List Block) (size-now : ℕ) → size-now ≡ suc n + sizes more
        → old ≡ lower ++ (free g ++ here ∷ (more ++ rest)) → new ≡ lower ++ Free size-now ∷ rest
        → top ≡ start + size-now → Replaced start top old new
    joined-with more rest size-now k was is up = record {
      below = lower;
      here = free g ++ here ∷ more;
      there = Free size-now ∷ [];
      above = rest;
      was = was ∙ ap (λ k. lower ++ k) (sym (append_assoc (free g) (here ∷ more) rest));
      is = is;
      low = low;
      high = omega (arith, span-append, span-free);
      span = omega (arith, span-append, span-free);
    }

    joined : (above : List Block) → old ≡ lower ++ (free g ++ here ∷ above) → new ≡ lower ++ add (Free (suc n)) above
        → top ≡ start + suc n + free_first above → Replaced start top old new
    joined (Free m ∷ rest) was is up = joined-with (Free m ∷ []) rest (suc n + m) (omega arith) was is (omega arith)
    joined above was is up = joined-with [] above (suc n) (omega arith) was is (omega arith)

pub first-small : (above : List Block) → free_first above ≤ sizes above
first-small (Free m ∷ rest) = omega arith
first-small _ = omega arith
