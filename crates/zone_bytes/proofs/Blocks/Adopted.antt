-- A nonrelocatable block that becomes the block of a slot.
use Rattle.zone_bytes.proofs.Cited.{◌≡◌, ℕ, true, false, IsTrue, ◌+◌, ◌%◌, ◌≤◌, Some, List, ◌∷◌, ◌++◌, length, drop, sym, refl, ◌∙◌, subst}
use Rattle.zone_bytes.proofs.Cited.{arith, written, word, word_at, header, length-header, Flags, Block, Nonrelocatable, Relocatable, size}
use Rattle.zone_bytes.proofs.Cited.{sizes, count, is_relocatable, is_nonrelocatable, is_masters, free_sum, has, is_used, Spot, spot_at}
use Rattle.zone_bytes.proofs.Cited.{IsSomeAnd, spot_at-is, spot_at-below, tidy-renamed, head_of, Tile, zone_in, left_in, IsOnWay, Walk}
use Rattle.zone_bytes.proofs.Cited.{slot_in, IsSound, named_header, adopted}
use Rattle.zone_bytes.proofs.Tiles.Heads.{length-head}
use Rattle.zone_bytes.proofs.Tiles.Splices.{outside-written, outside-same}
use Rattle.zone_bytes.proofs.SlotTable.Slotted.{slot-reads-in, flag-kept}
use Rattle.zone_bytes.proofs.Places.Stepped.{told-is, left-is}
use Rattle.zone_bytes.proofs.Blocks.InPlace.{alone, masters-same, total-same, tile-inside, tiles-piece, named-lays}
use Rattle.zone_bytes.proofs.Laws.Lawful.{Made, made}
use Rattle.zone_bytes.proofs.Placed.Standing.{stands, resource_in, Standing}

-- the length that the header of a nonrelocatable block tells
pub length-at : (at : ℕ) (xs : List ℕ) → IsOnWay at xs → (id : ℕ) (content : List ℕ) (above : List Block)
    → left_in at xs ≡ Nonrelocatable id content ∷ above → word_at (at + 4) xs ≡ length content
length-at at xs w id content above e =
    let v = subst (Walk w.resource at xs) (sym (left-is at xs w) ∙ e) w.walk in
    let q = told-is w.resource at xs w.small (Nonrelocatable id content) v.high.0 tt in
    cc

-- a header in place of another
header-over : (a b c d a' b' c' d' : ℕ) (content : List ℕ)
    → written 0 (header a' b' c' d') (header a b c d ++ content) ≡ header a' b' c' d' ++ content
unfolding word
header-over a b c d a' b' c' d' content = refl

-- the blocks of master pointers, and the Free bytes, stay
pub masters-adopted : (below : List Block) (id number : ℕ) (flags : Flags) (content : List ℕ) (above : List Block)
    → count is_masters (below ++ Relocatable number flags content ∷ above)
    ≡ count is_masters (below ++ Nonrelocatable id content ∷ above)
masters-adopted below id number flags content above = grind (arith, masters-same)

pub free-adopted : (below : List Block) (id number : ℕ) (flags : Flags) (content : List ℕ) (above : List Block)
    → free_sum (below ++ Relocatable number flags content ∷ above)
    ≡ free_sum (below ++ Nonrelocatable id content ∷ above)
free-adopted below id number flags content above = grind (arith, total-same)

-- the nonrelocatable block at a place
pub record NonrelocatableAt (xs : List ℕ) (place : ℕ) : Type 0 where
  pub s : Spot
  pub id : ℕ
  pub content : List ℕ
  pub is : spot_at place (zone_in xs) ≡ Some s
  pub here : s.here ≡ Nonrelocatable id content
  pub whole : zone_in xs ≡ s.below ++ Nonrelocatable id content ∷ s.above
  pub low : sizes s.below ≡ place

pub nonrelocatable-at : (xs : List ℕ) (place : ℕ)
    → IsSomeAnd (spot_at place (zone_in xs)) (λ s. is_nonrelocatable place s.here ≡ true) → NonrelocatableAt xs place
nonrelocatable-at xs place h = grind (arith, spot_at-is, spot_at-below)

-- which becomes the block of a slot
module _ (xs : List ℕ) (first count : ℕ) (i : IsSound xs first count) (place : ℕ) (a : NonrelocatableAt xs place)
    (number : ℕ) (flags : Flags) (used : IsTrue (is_used (slot_in xs number)))
    (none : has (is_relocatable number) (zone_in xs) ≡ false) where
  abbrev old : Block
  old = Nonrelocatable a.id a.content

  abbrev new : Block
  new = Relocatable number flags a.content

  abbrev mid : List ℕ
  mid = written place (named_header number flags a.content xs) xs

  at : Standing xs place (record { below = a.s.below; here = old; above = a.s.above })
  at = stands i a.s.below old a.s.above a.whole place a.low

  new-tile : Tile (head_of (resource_in xs) new) (size old) (drop place mid)
  unfolding head_of
  new-tile =
      rw (← flag-kept xs first count i number used none)
      (tile-inside _ _ (named_header number flags a.content xs) 0 (size old) place place xs (omega arith)
      (omega (arith, length-head, length-header)) (header-over _ _ 0 0 _ _ _ _ a.content) at.tile)

  pub adopt-reads-in : (number % 4 ≡ 0) × (number + 4 ≤ length xs)
  adopt-reads-in = slot-reads-in _ _ _ i _ used none

  pub adopted-at : (after : List ℕ) → ((id : ℕ) (content : List ℕ) (above : List Block)
      → left_in place xs ≡ Nonrelocatable id content ∷ above → after ≡ adopted number flags place content xs)
      → Made after first count (a.s.below ++ Relocatable number flags a.content ∷ a.s.above) (slot_in xs)
  adopted-at after bytes =
      rw (bytes a.id a.content a.s.above at.left) (made _ _ (slot_in xs) _ (named-lays
      (alone (place + size old) at refl refl) refl i number used none flags a.content 0 (omega arith) mid
      (outside-written _ _ _ _ place _ (omega arith) (omega (arith, length-header))
      (outside-same place (place + size old) xs (omega arith) at.inside))
      (tiles-piece (head_of (resource_in xs)) new place _ mid (omega arith) new-tile)) _ _
      (tidy-renamed a.s.below old new a.s.above refl refl at.tidied) i.begins i.counted)
