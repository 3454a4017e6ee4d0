use Rattle.std.specs.Prelude.{ℕ, ◌+◌, Option, None, List, [], ◌∷◌}
use Rattle.block_store.specs.Walk.{seen_size}
use Rattle.block_store.specs.declared.sparing.Seen.{Seen}
use Rattle.block_store.specs.declared.sparing.Seen.TheVariants as see
use Rattle.zone_drawing.specs.declared.line.Owner.{Owner}
use Rattle.zone_drawing.specs.declared.line.Shape.{Shape}
use Rattle.zone_drawing.specs.declared.line.Shape.TheVariants as shape

-- The blocks of a zone as they are shown. Inside Macintosh: Memory, chapter 2, "Heap Zones" and "Blocks".

-- What is known of a handle or a pointer: the name that a script has for it, the resource that the handle is of, and its
-- number, by which its block is known again at another moment.
pub record Tag : Type 0 where
  pub name : Option (List ℕ)
  pub owner : Option Owner
  pub number : Option ℕ

-- What is known of the handles and of the pointers of a zone.
pub record Known : Type 0 where
  pub handle : ℕ → Tag
  pub pointer : ℕ → Tag

-- A block as it is shown: its distance from the bottom of the zone and its physical size, in bytes; what it is; its
-- logical size, 0 where it has no content; and what is known of its handle or pointer.
pub record Line : Type 0 where
  pub place : ℕ
  pub size : ℕ
  pub shape : Shape
  pub bytes : ℕ
  pub tag : Tag

abbrev pub no_tag : Tag
no_tag = record { name = None; owner = None; number = None }

-- What a block is, and its logical size.
abbrev pub shape_of : Seen → Shape
shape_of (see.Free n) = shape.Free
shape_of (see.Nonrelocatable n) = shape.Nonrelocatable
shape_of see.Masters = shape.Masters
shape_of (see.Relocatable id flags n) = shape.Relocatable flags

abbrev pub logical : Seen → ℕ
logical (see.Free n) = 0
logical (see.Nonrelocatable n) = n
logical see.Masters = 0
logical (see.Relocatable id flags n) = n

-- What is known of a block that begins at a place. A nonrelocatable block is its pointer's by its place.
abbrev pub tag_of : Known → ℕ → Seen → Tag
tag_of known place (see.Free n) = no_tag
tag_of known place (see.Nonrelocatable n) = known.pointer place
tag_of known place see.Masters = no_tag
tag_of known place (see.Relocatable id flags n) = known.handle id

-- The total physical size of blocks.
abbrev pub seen_sizes : List Seen → ℕ
seen_sizes [] = 0
seen_sizes (b ∷ above) = seen_size b + seen_sizes above

-- A block that begins at a place.
abbrev pub line : Known → ℕ → Seen → Line
line known place b = record {
  place = place;
  size = seen_size b;
  shape = shape_of b;
  bytes = logical b;
  tag = tag_of known place b;
}

-- The blocks that begin at a place, one above the other.
abbrev pub lines : Known → ℕ → List Seen → List Line
lines known place [] = []
lines known place (b ∷ above) = line known place b ∷ lines known (place + seen_size b) above
