-- The header of a block: the physical size with the tag, the logical size, the slot, and the flags (Inside Macintosh:
-- Memory, chapter 2, "Block Headers").
use Rattle.std.specs.Prelude.{ℕ, ◌+◌, List}
use Rattle.block_headers.specs.Words.{header}
use Rattle.block_headers.specs.declared.header.Tag.{Tag}
use Rattle.block_headers.specs.declared.header.Tag.TheVariants.{Free, Nonrelocatable, Masters, Relocatable}
use Rattle.block_headers.specs.declared.header.Header.{Header}

-- The number of a tag, which is added to the physical size, a multiple of 16.
abbrev pub tag_number : Tag → ℕ
tag_number Free = 0
tag_number Nonrelocatable = 1
tag_number Masters = 2
tag_number Relocatable = 3

-- The bytes of a header.
abbrev pub header_bytes : Header → List ℕ
header_bytes h = header (h.size + tag_number h.tag) h.logical h.slot h.flags
