-- The place of a block that became another.
use Rattle.zone_bytes.proofs.Cited.{◌≡◌, ℕ, ◌+◌, ◌<◌, List, ◌∷◌, length, ap, arith, Block, sizes, zone_in, IsSound, Became, left_in}
use Rattle.zone_bytes.proofs.Cited.{IsOnWay}
use Rattle.zone_bytes.proofs.Laws.Lawful.{sizes-length}
use Rattle.zone_bytes.proofs.Places.AtPlace.{way-above, left-above}
use Rattle.zone_bytes.proofs.Places.Stepped.{left-none}
use Rattle.zone_bytes.proofs.Tiles.Tiling.{span-append}

module _ (xs : List ℕ) (first unused : ℕ) (i : IsSound xs first unused) (place : ℕ) (old : List Block)
    (b : Became place old (zone_in xs)) where
  pub became-way : IsOnWay place xs
  became-way = way-above xs first unused i b.below (b.there ∷ b.above) place b.is b.low

  pub became-left : left_in place xs ≡ b.there ∷ b.above
  became-left = left-above xs first unused i b.below (b.there ∷ b.above) place b.is b.low

  pub became-inside : place < length xs
  became-inside = grind (arith, became-left, left-none, became-way)

  pub became-fits : place + sizes (b.there ∷ b.above) ≡ length xs
  became-fits = omega (arith, ap sizes b.is, span-append, sizes-length)
