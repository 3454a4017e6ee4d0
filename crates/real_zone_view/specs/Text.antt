use Rattle.std.specs.Prelude.{ℕ, ◌==◌, Bool, true, false, ◌&&◌, not, nat_le, List, [], ◌++◌, codes, Option, Some, None, if◌then◌else◌}
use Rattle.std.specs.Fmt.{signed_decimal}
use Rattle.std.specs.List.{flat_map, list_all}
use Rattle.byteorder.specs.Endian.{big_bytes}
use Rattle.real_zone.specs.declared.block.Block.{Block}
use Rattle.real_zone.specs.declared.block.Kind.{Kind}
use Rattle.real_zone.specs.declared.block.Kind.TheVariants as kind
use Rattle.real_zone.specs.declared.form.Form.{Form}
use Rattle.real_zone.specs.declared.form.Form.TheVariants as form
use Rattle.real_zone.specs.declared.resource_map.Resource.{Resource}
use Rattle.real_zone_view.specs.Fields.{hex_text, left_field, right_field, size_field}
use Rattle.real_zone_view.specs.declared.style.Fields.{Fields}
use Rattle.real_zone_view.specs.declared.style.Fields.TheVariants as fields
use Rattle.real_zone_view.specs.declared.style.Style.{Style}

-- The blocks of a zone as they are written, a line for each.

-- What a block is.
abbrev pub kind_text : Kind → List ℕ
kind_text kind.Free = codes "free"
kind_text kind.Nonrelocatable = codes "nonrelocatable"
kind_text (kind.Relocatable master) = codes "relocatable"
kind_text kind.Unknown = codes "unknown"

-- The field of the logical size, which a free block has not, nor one of an unknown kind.
unfoldable pub logical_field : Style → Kind → ℕ → List ℕ
logical_field style kind.Free size = right_field style.fields 10 (codes "-")
logical_field style kind.Nonrelocatable size = size_field style 10 size
logical_field style (kind.Relocatable master) size = size_field style 10 size
logical_field style kind.Unknown size = right_field style.fields 10 (codes "-")

-- The field of the master pointer's address.
unfoldable pub master_field : Fields → Kind → List ℕ
master_field f kind.Free = left_field f 8 (codes "-")
master_field f kind.Nonrelocatable = left_field f 8 (codes "-")
master_field f (kind.Relocatable master) = left_field f 8 (hex_text master.address)
master_field f kind.Unknown = left_field f 8 (codes "-")

-- What a relocatable block is marked as.
abbrev pub is_locked : Kind → Bool
is_locked kind.Free = false
is_locked kind.Nonrelocatable = false
is_locked (kind.Relocatable master) = master.is_locked
is_locked kind.Unknown = false

abbrev pub is_purgeable : Kind → Bool
is_purgeable kind.Free = false
is_purgeable kind.Nonrelocatable = false
is_purgeable (kind.Relocatable master) = master.is_purgeable
is_purgeable kind.Unknown = false

-- A word where something holds, else `-`.
abbrev pub marked : Bool → List ℕ → List ℕ
marked true word = word
marked false word = codes "-"

-- The type of a resource: its four characters between quotes where each is a printable one of ASCII and none is a quote, else `$` and
-- hexadecimal digits.
abbrev pub is_plain : ℕ → Bool
is_plain byte = nat_le 32 byte && nat_le byte 126 && not (byte == 39)

abbrev pub is_plain_type : ℕ → Bool
is_plain_type kind = list_all is_plain (big_bytes 4 kind)

unfoldable pub type_text : ℕ → List ℕ
type_text kind = if is_plain_type kind then codes "'" ++ big_bytes 4 kind ++ codes "'" else codes "$" ++ hex_text kind

-- A resource: its type and its ID; where no resource map in the zone names it, a word.
unfoldable pub resource_text : Option Resource → List ℕ
resource_text None = codes "resource"
resource_text (Some resource) = type_text resource.kind ++ codes " " ++ signed_decimal resource.id

-- The resource whose block this is, by the resources of handles; else `-`.
unfoldable pub owner_text : (ℕ → Option Resource) → Kind → List ℕ
owner_text named kind.Free = codes "-"
owner_text named kind.Nonrelocatable = codes "-"
owner_text named (kind.Relocatable master) = if master.is_resource then resource_text (named master.address) else codes "-"
owner_text named kind.Unknown = codes "-"

-- What a line begins with where tabs stand between its fields.
abbrev pub begin : Fields → List ℕ → List ℕ
begin fields.Columns word = []
begin fields.Tabs word = word ++ codes "\t"

-- Where a block stands, and its sizes.
unfoldable pub place_fields : Style → Block → List ℕ
place_fields style block =
    begin style.fields (codes "block") ++ hex_text block.address ++ size_field style 10 block.physical_size
    ++ logical_field style block.kind block.logical_size

-- What it is, and its master pointer.
unfoldable pub kind_fields : Fields → Kind → List ℕ
kind_fields f k = left_field f 14 (kind_text k) ++ master_field f k

-- What it is marked as, and its resource.
unfoldable pub mark_fields : Fields → (ℕ → Option Resource) → Kind → List ℕ
mark_fields f named k =
    left_field f 6 (marked (is_locked k) (codes "locked")) ++ left_field f 9 (marked (is_purgeable k) (codes "purgeable"))
    ++ left_field f 0 (owner_text named k) ++ codes "\n"

-- The line of a block, where handles have these resources.
unfoldable pub line_text : Style → (ℕ → Option Resource) → Block → List ℕ
line_text style named block =
    place_fields style block ++ kind_fields style.fields block.kind ++ mark_fields style.fields named block.kind

-- The lines of blocks.
abbrev pub lines_text : Style → (ℕ → Option Resource) → List Block → List ℕ
lines_text style named blocks = flat_map (line_text style named) blocks

-- A line with titles, and another line without a word, which stand in columns alone.
abbrev pub titled : Fields → List ℕ → List ℕ
titled fields.Columns titles = titles
titled fields.Tabs titles = []

-- The titles of the columns.
abbrev pub head_text : Fields → List ℕ
head_text f = titled f (codes "address       size   logical what           master   locked purgeable resource\n")

-- The bits of an address.
abbrev pub bits_text : Form → List ℕ
bits_text form.Bits24 = codes "24"
bits_text form.Bits32 = codes "32"

-- The line above the list: the address of the zone, the bits of its addresses, and its size.
unfoldable pub title_in : Fields → Style → Form → ℕ → ℕ → List ℕ
title_in fields.Columns style form zone size =
    codes "zone " ++ hex_text zone ++ codes ": " ++ bits_text form ++ codes " bits, " ++ size_field style 0 size
    ++ codes " bytes\n\n"
title_in fields.Tabs style form zone size =
    codes "zone\t" ++ hex_text zone ++ codes "\t" ++ bits_text form ++ size_field style 0 size ++ codes "\n"

abbrev pub title_text : Style → Form → ℕ → ℕ → List ℕ
title_text style form zone size = title_in style.fields style form zone size
