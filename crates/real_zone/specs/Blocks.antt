use Rattle.std.specs.Prelude.{ℕ, zero, suc, ◌+◌, ◌-◌, ◌%◌, ◌==◌, Bool, true, false, ◌&&◌, nat_le, if◌then◌else◌}
use Rattle.std.specs.Prelude.{List, [], ◌∷◌, length, filter, Option, Some, None, sum_by}
use Rattle.std.specs.List.{list_all}
use Rattle.real_zone.specs.Form.{alignment}
use Rattle.real_zone.specs.Header.{tag_at, size_at}
use Rattle.real_zone.specs.declared.form.Form.{Form}
use Rattle.real_zone.specs.declared.form.Tag.{Tag}
use Rattle.real_zone.specs.declared.form.Tag.TheVariants as tag

-- Where the blocks of a zone stand. The bytes are those of the zone: the zone record, 52 bytes, and all blocks, up to bkLim. A
-- place is an offset in them.
-- Inside Macintosh: Memory, chapter 2, "Heap Zones" and "Block Headers".

-- A block of the least size, 12 bytes, would fit at a place.
abbrev pub has_room : List ℕ → ℕ → Bool
has_room bytes at = nat_le (at + 12) (length bytes)

-- A number is the physical size of a block: at least 12, and aligned.
abbrev pub is_size : Form → ℕ → Bool
is_size form size = nat_le 12 size && size % alignment form == 0

-- A block lies in its zone with a size that a block can have, so that the next one stands at its end.
unfoldable pub is_passable : Form → List ℕ → ℕ → Bool
is_passable form bytes at =
    has_room bytes at && is_size form (size_at form bytes at) && nat_le (at + size_at form bytes at) (length bytes)

-- Where at most so many blocks stand, the first of them at a place: each at the end of the one before it, up to bkLim or to a
-- block that is not passable.
unfoldable pub places : Form → List ℕ → ℕ → ℕ → List ℕ
places form bytes zero at = []
places form bytes (suc n) at =
    if at == length bytes then []
    else at ∷ (if is_passable form bytes at then places form bytes n (at + size_at form bytes at) else [])

-- Where the blocks stand from a place on. There are no more of them than bytes.
abbrev pub places_from : Form → List ℕ → ℕ → List ℕ
places_from form bytes at = places form bytes (length bytes - at) at

-- Where the blocks of a zone stand, the first of them at heapData.
abbrev pub block_places : Form → List ℕ → List ℕ
block_places form bytes = places_from form bytes 52

-- The blocks tile the zone from heapData to bkLim.
abbrev pub is_tiled : Form → List ℕ → Bool
is_tiled form bytes = list_all (is_passable form bytes) (block_places form bytes)

-- Where the passable blocks stand from a place on, and those of a zone: all of them in a zone that the blocks tile, and else those up to
-- the one that ends the walk.
abbrev pub passed_from : Form → List ℕ → ℕ → List ℕ
passed_from form bytes at = filter (is_passable form bytes) (places_from form bytes at)

abbrev pub passed_places : Form → List ℕ → List ℕ
passed_places form bytes = passed_from form bytes 52

-- A kind is that of a free block, of a nonrelocatable one, and of a relocatable one.
abbrev pub is_free : Option Tag → Bool
is_free None = false
is_free (Some tag.Free) = true
is_free (Some tag.Nonrelocatable) = false
is_free (Some tag.Relocatable) = false

abbrev pub is_nonrelocatable : Option Tag → Bool
is_nonrelocatable None = false
is_nonrelocatable (Some tag.Free) = false
is_nonrelocatable (Some tag.Nonrelocatable) = true
is_nonrelocatable (Some tag.Relocatable) = false

abbrev pub is_relocatable : Option Tag → Bool
is_relocatable None = false
is_relocatable (Some tag.Free) = false
is_relocatable (Some tag.Nonrelocatable) = false
is_relocatable (Some tag.Relocatable) = true

-- The size of a block if it is free, and the free bytes of a zone.
unfoldable pub free_size : Form → List ℕ → ℕ → ℕ
free_size form bytes at = if is_free (tag_at bytes at) then size_at form bytes at else 0

abbrev pub free_bytes : Form → List ℕ → ℕ
free_bytes form bytes = sum_by (free_size form bytes) (block_places form bytes)
