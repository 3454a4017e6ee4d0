use Rattle.std.specs.Prelude.{ℕ, ◌%◌}
use Rattle.real_zone.specs.declared.form.Form.{Form}
use Rattle.real_zone.specs.declared.form.Form.TheVariants as form

-- The two forms of a zone: the Memory Manager lays it for addresses of 24 or of 32 bits.
-- Inside Macintosh: Memory, chapter 2, "Heap Zones" and "Block Headers".

-- The size of a block's header.
abbrev pub header_size : Form → ℕ
header_size form.Bits24 = 8
header_size form.Bits32 = 12

-- What the sizes of blocks, and the places of blocks and master pointers in the zone, are multiples of. In a 24-bit zone of
-- a 68020 or later they are multiples of 4, and in later 32-bit zones sizes are multiples of 16: such zones keep this rule too.
abbrev pub alignment : Form → ℕ
alignment form.Bits24 = 2
alignment form.Bits32 = 4

-- The address that a long gives: of 24 bits the low three bytes, which are those under Lo3Bytes.
abbrev pub address_in : Form → ℕ → ℕ
address_in form.Bits24 long = long % 0x1000000
address_in form.Bits32 long = long
