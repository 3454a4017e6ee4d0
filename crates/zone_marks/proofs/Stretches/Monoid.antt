-- Stretches are a monoid, to which lists of blocks go by a homomorphism.
use Rattle.zone_marks.proofs.Cited.{◌≡◌, List, [], ◌∷◌, ◌++◌, arith, Block, join, stretch_by, stretch_of, Counting, Stretch, Whole}
use Rattle.zone_marks.specs.declared.stretch.Counting.TheVariants as counting

pub join-unit_left : (s : Stretch) → join (Whole 0) s ≡ s
join-unit_left s = grind arith

pub join-unit_right : (s : Stretch) → join s (Whole 0) ≡ s
join-unit_right s = grind arith

pub join-assoc : (r s t : Stretch) → join (join r s) t ≡ join r (join s t)
join-assoc r s t = grind arith

-- lists of blocks
pub counted-none : (c : Counting) → stretch_by c [] ≡ Whole 0
counted-none c = grind arith

pub stretch_by-append : (c : Counting) (lower upper : List Block)
    → stretch_by c (lower ++ upper) ≡ join (stretch_by c lower) (stretch_by c upper)
stretch_by-append c [] upper = grind (arith, join-unit_left)
stretch_by-append c (b ∷ lower) upper = grind (arith, stretch_by-append c lower, join-assoc)

pub stretch_of-append : (lower upper : List Block)
    → stretch_of (lower ++ upper) ≡ join (stretch_of lower) (stretch_of upper)
stretch_of-append = stretch_by-append counting.Runs

-- stretches that come to those of blocks
pub joined-is : (c : Counting) (lower upper : List Block) (s t r : Stretch) → r ≡ join s t → s ≡ stretch_by c lower
    → t ≡ stretch_by c upper → r ≡ stretch_by c (lower ++ upper)
joined-is c lower upper s t r j e d = grind (arith, stretch_by-append)

-- what the code of a join names
pub ruleset joins = stretch_by-append
