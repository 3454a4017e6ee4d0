use Rattle.std.specs.Prelude.{ℕ, ◌+◌, ◌-◌, ◌%◌, ◌==◌, Bool, not, bit_and, List, map, take, drop, Option, Some, None}
use Rattle.real_zone.specs.Numbers.{number}
use Rattle.real_zone.specs.Form.{header_size}
use Rattle.real_zone.specs.Header.{tag_at, size_at, correction_at, owner_at}
use Rattle.real_zone.specs.Blocks.{block_places, passed_places}
use Rattle.real_zone.specs.declared.form.Form.{Form}
use Rattle.real_zone.specs.declared.form.Form.TheVariants as form
use Rattle.real_zone.specs.declared.form.Tag.{Tag}
use Rattle.real_zone.specs.declared.form.Tag.TheVariants as tag
use Rattle.real_zone.specs.declared.block.Block.{Block}
use Rattle.real_zone.specs.declared.block.Kind.{Kind}
use Rattle.real_zone.specs.declared.block.Kind.TheVariants as kind
use Rattle.real_zone.specs.declared.block.Master.{Master}

-- A block as it is seen: its kind, where it stands, and its sizes.
-- Inside Macintosh: Memory, chapter 2, "Block Headers"; chapter 1, "Properties of Relocatable Blocks".

-- The flags of a relocatable block: in a 24-bit zone the high byte of its master pointer, in a 32-bit zone the byte after the tag.
unfoldable pub flags_at : Form → List ℕ → ℕ → ℕ
flags_at form.Bits24 bytes at = number 1 (owner_at form.Bits24 bytes at) bytes
flags_at form.Bits32 bytes at = number 1 (at + 1) bytes

-- A flag is set.
abbrev pub has_flag : ℕ → ℕ → Bool
has_flag flag flags = not (bit_and flags flag == 0)

-- The master pointer of a relocatable block, with the flags of the block. Of a damaged zone it may lie anywhere: addresses begin again
-- after the last one, and past bkLim no flag is set.
unfoldable pub master_of : Form → ℕ → List ℕ → ℕ → Master
master_of form zone bytes at = record {
  address = (zone + owner_at form bytes at) % 0x100000000;
  is_locked = has_flag 0x80 (flags_at form bytes at);
  is_purgeable = has_flag 0x40 (flags_at form bytes at);
  is_resource = has_flag 0x20 (flags_at form bytes at);
}

-- The kind of a block with a tag. No block of a zone that keeps all rules has another tag than these three.
unfoldable pub kind_of : Option Tag → Form → ℕ → List ℕ → ℕ → Kind
kind_of None form zone bytes at = kind.Unknown
kind_of (Some tag.Free) form zone bytes at = kind.Free
kind_of (Some tag.Nonrelocatable) form zone bytes at = kind.Nonrelocatable
kind_of (Some tag.Relocatable) form zone bytes at = kind.Relocatable (master_of form zone bytes at)

-- The logical size: the physical size less the header and the size correction.
unfoldable pub logical_size : Form → List ℕ → ℕ → ℕ
logical_size form bytes at = size_at form bytes at - (header_size form + correction_at form bytes at)

-- The content of a block: the bytes between its header and its size correction.
unfoldable pub content_at : Form → List ℕ → ℕ → List ℕ
content_at form bytes at = take (logical_size form bytes at) (drop (at + header_size form) bytes)

-- The block at a place.
unfoldable pub block_at : Form → ℕ → List ℕ → ℕ → Block
block_at form zone bytes at = record {
  address = zone + at;
  physical_size = size_at form bytes at;
  logical_size = logical_size form bytes at;
  kind = kind_of (tag_at bytes at) form zone bytes at;
}

-- The blocks of a zone, in their order.
abbrev pub blocks_of : Form → ℕ → List ℕ → List Block
blocks_of form zone bytes = map (block_at form zone bytes) (block_places form bytes)

-- The blocks of a zone that may be damaged: those that are passed.
abbrev pub blocks_passed : Form → ℕ → List ℕ → List Block
blocks_passed form zone bytes = map (block_at form zone bytes) (passed_places form bytes)
