-- The block at a place of a RawZone.
use Rattle.zone_bytes.proofs.Cited.{◌≡◌, ℕ, ◌+◌, ◌<◌, ◌≤◌, ◌^◌, Some, List, [], ◌∷◌, ◌++◌, length, sym, refl, ap, subst, arith, Block, size}
use Rattle.zone_bytes.proofs.Cited.{sizes, Spot, spot_at, spot_at-is, spot_at-below, zone_in, slot_in, Lays, IsSound, left_in, IsOnWay}
use Rattle.zone_bytes.proofs.Tiles.Tiling.{span-append}
use Rattle.zone_bytes.proofs.Laws.Lawful.{sizes-length}
use Rattle.zone_bytes.proofs.Joined.Ways.{way, left, tile-at}

pub left-zone : (xs : List ℕ) → left_in 0 xs ≡ zone_in xs
unfolding zone_in
left-zone xs = refl

module _ (xs : List ℕ) (first count : ℕ) (i : IsSound xs first count) where
  pub way-above : (below above : List Block) (place : ℕ) → zone_in xs ≡ below ++ above → sizes below ≡ place
      → IsOnWay place xs
  way-above below above place z b = way xs below above (slot_in xs) i.unused
      (subst (λ bs. Lays xs bs (slot_in xs) i.unused) z i.lays) place b

  pub left-above : (below above : List Block) (place : ℕ) → zone_in xs ≡ below ++ above → sizes below ≡ place
      → left_in place xs ≡ above
  left-above below above place z b = left xs below above (slot_in xs) i.unused
      (subst (λ bs. Lays xs bs (slot_in xs) i.unused) z i.lays) place b

  pub on-way : IsOnWay 0 xs
  on-way = way-above [] (zone_in xs) 0 refl refl

  pub sizes-fit : sizes (left_in 0 xs) < 2 ^ 32
  sizes-fit = omega (arith, ap sizes (left-zone xs), sizes-length)

  module _ (place : ℕ) (s : Spot) (e : spot_at place (zone_in xs) ≡ Some s) where
    pub whole : zone_in xs ≡ s.below ++ s.here ∷ s.above
    whole = sym (spot_at-is place (zone_in xs) s e)

    pub low : sizes s.below ≡ place
    low = spot_at-below place (zone_in xs) s e

    pub way-at : IsOnWay place xs
    way-at = way-above s.below (s.here ∷ s.above) place whole low

    pub left-at : left_in place xs ≡ s.here ∷ s.above
    left-at = left-above s.below (s.here ∷ s.above) place whole low

    pub inside : place + size s.here ≤ length xs
    inside = omega (arith, ap sizes whole, span-append, sizes-length, low)

    pub some-here : 16 ≤ size s.here
    some-here =
        let h = subst (λ bs. Lays xs bs (slot_in xs) i.unused) whole i.lays in
        (tile-at xs s.below s.here s.above (slot_in xs) i.unused h place low).some

    pub above-fit : sizes s.above < 2 ^ 32
    above-fit = omega (arith, ap sizes whole, span-append, sizes-length)
