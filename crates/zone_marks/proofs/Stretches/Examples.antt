-- Worked examples of what stretches come to, by the definitions alone.
use Rattle.zone_marks.proofs.Cited.{◌≡◌, true, false, List, [], ◌∷◌, ◌++◌, replicate, refl, Block, Free, Masters, Relocatable, no_flags}
use Rattle.zone_marks.proofs.Cited.{Flags, best, join, stretch_of, Ended}

abbrev locked : Flags
locked = record { locked = true; purgeable = false }

-- a block that may be moved ends no run, and adds no bytes; a master pointer block and a locked block end one
abbrev lower : List Block
lower = Free 32 ∷ Relocatable 1 no_flags [] ∷ Free 16 ∷ Masters ∷ Free 64 ∷ Relocatable 2 locked [] ∷ Free 48 ∷ []

abbrev upper : List Block
upper = Relocatable 3 no_flags (replicate 16 0) ∷ Free 80 ∷ Masters ∷ Free 96 ∷ []

lower-is : stretch_of lower ≡ Ended 48 64 48
lower-is = refl

upper-is : stretch_of upper ≡ Ended 80 0 96
upper-is = refl

-- the run over the seam has 48 and 80 bytes
both-is : join (stretch_of lower) (stretch_of upper) ≡ Ended 48 128 96
both-is = refl

most-is : best (stretch_of (lower ++ upper)) ≡ 128
most-is = refl
