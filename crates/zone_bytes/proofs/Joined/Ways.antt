-- A walk that begins at a block of a zone that bytes lay.
use Rattle.zone_bytes.proofs.Cited.{◌≡◌, ℕ, ◌+◌, ◌<◌, ◌≤◌, ◌^◌, ◌%◌, List, ◌∷◌, ◌++◌, length, drop, arith, word_at, Block, size, sizes}
use Rattle.zone_bytes.proofs.Cited.{Slot, is_resource, kind, head_of, Tile, IsSlot, names, Each, left_in, IsOnWay, Lays}
use Rattle.zone_bytes.proofs.Tiles.Tiling.{span-append, length-tiles, slot-inside, tiles-split, span-whole}
use Rattle.zone_bytes.proofs.Tiles.Leading.{each-names, each-map}
use Rattle.zone_bytes.proofs.Tiles.Keeping.{placed-right}
use Rattle.zone_bytes.proofs.Tiles.Heads.{first-reads, MayRead}
use Rattle.zone_bytes.proofs.Places.Stepped.{left-is}

module _ (xs : List ℕ) (below above : List Block) (slots : ℕ
    → Slot) (unused : List ℕ) (h : Lays xs (below ++ above) slots unused)
    (place : ℕ) (low : sizes below ≡ place) where
  abbrev all : List Block
  all = below ++ above

  abbrev head : Block → List ℕ
  head = head_of (λ s. is_resource (slots s))

  whole : length xs ≡ sizes all
  whole = length-tiles head xs all h.lies.tiles

  words : (blocks : List Block) → Each (λ s. IsSlot s all) (names blocks) → Each (λ s. s < 2 ^ 32) (names blocks)
  words blocks e = grind (arith, each-map, whole, slot-inside)

  pub inside : place + sizes above ≡ length xs
  inside = omega (arith, span-append, whole)

  pub way : IsOnWay place xs
  way = grind (arith, tiles-split, inside, span-whole, placed-right, words, each-names)

  pub left : left_in place xs ≡ above
  unfolding way
  left = left-is place xs way

-- the block at a place, by its header
pub record Read (xs : List ℕ) (b : Block) (place : ℕ) : Type 0 where
  pub may : MayRead place xs
  pub inside : place + size b ≤ length xs
  pub some : 16 ≤ size b
  pub whole : (place % 16 ≡ 0) × (size b % 16 ≡ 0)
  pub says : (n t : ℕ) → n + t ≡ word_at place xs → n % 16 ≡ 0 → t ≤ 3 → (n ≡ size b) × (t ≡ kind b)

module _ (xs : List ℕ) (below : List Block) (b : Block) (above : List Block) (slots : ℕ
    → Slot) (unused : List ℕ) (h : Lays xs (below ++ b ∷ above) slots unused)
    (place : ℕ) (low : sizes below ≡ place) where
  pub tile-at : Tile (head_of (λ s. is_resource (slots s)) b) (size b) (drop place xs)
  tile-at = grind (arith, tiles-split)

  pub read : Read xs b place
  read =
      let t = tile-at in
      let n = inside xs below (b ∷ above) slots unused h place low in
      let w = way xs below (b ∷ above) slots unused h place low in
      grind (arith, first-reads)
