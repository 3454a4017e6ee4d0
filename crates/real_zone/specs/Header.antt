use Rattle.std.specs.Prelude.{ℕ, ◌+◌, ◌/◌, ◌%◌, ◌==◌, if◌then◌else◌, List, Option, Some, None}
use Rattle.real_zone.specs.Numbers.{number}
use Rattle.real_zone.specs.declared.form.Form.{Form}
use Rattle.real_zone.specs.declared.form.Form.TheVariants as form
use Rattle.real_zone.specs.declared.form.Tag.{Tag}
use Rattle.real_zone.specs.declared.form.Tag.TheVariants as tag

-- The header of a block, which stands at an offset in the bytes of its zone.
-- Of 24-bit zones, 8 bytes: the tag (1 byte: the kind in bits 7 and 6, the size correction in bits 3 to 0), the physical size (3),
-- and the relative handle of a relocatable block or the zone pointer of a nonrelocatable one (4).
-- Of 32-bit zones, 12 bytes: the tag (1: the kind in bits 7 and 6), the flags of a relocatable block (1), a reserved byte, the size
-- correction (1), the physical size (4), and the relative handle or the zone pointer (4).
-- Inside Macintosh: Memory, chapter 2, "Block Headers".

-- The kind in a tag: 0 is free, 1 nonrelocatable, 2 relocatable, and 3 is none.
abbrev pub tag_of : ℕ → Option Tag
tag_of byte =
    if byte / 64 == 0 then Some tag.Free
    else if byte / 64 == 1 then Some tag.Nonrelocatable
    else if byte / 64 == 2 then Some tag.Relocatable
    else None

-- The kind of a block.
abbrev pub tag_at : List ℕ → ℕ → Option Tag
tag_at bytes at = tag_of (number 1 at bytes)

-- The physical size, which includes the header.
abbrev pub size_at : Form → List ℕ → ℕ → ℕ
size_at form.Bits24 bytes at = number 3 (at + 1) bytes
size_at form.Bits32 bytes at = number 4 (at + 4) bytes

-- The size correction: how many bytes at the block's end are no part of its content.
abbrev pub correction_at : Form → List ℕ → ℕ → ℕ
correction_at form.Bits24 bytes at = number 1 at bytes % 16
correction_at form.Bits32 bytes at = number 1 (at + 3) bytes

-- The relative handle, which is the distance of the master pointer from the zone, or the pointer to the zone.
abbrev pub owner_at : Form → List ℕ → ℕ → ℕ
owner_at form.Bits24 bytes at = number 4 (at + 4) bytes
owner_at form.Bits32 bytes at = number 4 (at + 8) bytes
