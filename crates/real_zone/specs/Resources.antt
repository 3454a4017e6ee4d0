use Rattle.std.specs.Prelude.{ℕ, zero, suc, ◌+◌, ◌*◌, ◌%◌, ◌==◌, Bool, ◌&&◌, nat_le, if◌then◌else◌, List, [], ◌∷◌, length, sum_by}
use Rattle.std.specs.Prelude.{Option, Some, None}
use Rattle.std.specs.Int.{w16, cast_signed}
use Rattle.std.specs.List.{list_all}
use Rattle.real_zone.specs.Numbers.{number}
use Rattle.real_zone.specs.Lists.{first_found}
use Rattle.real_zone.specs.Form.{address_in}
use Rattle.real_zone.specs.Header.{tag_at}
use Rattle.real_zone.specs.Blocks.{is_relocatable, passed_places}
use Rattle.real_zone.specs.Seen.{content_at}
use Rattle.real_zone.specs.declared.form.Form.{Form}
use Rattle.real_zone.specs.declared.resource_map.Resource.{Resource}

-- The resources that the resource maps in a zone name. The Resource Manager keeps the map of an open resource file in a relocatable
-- block: the map is as in the file, but each reference ends with the handle of its resource, 0 where that is not loaded.
-- A resource map has a copy of the resource header (16 bytes), the handle of the next map (4), the number of the file (2), the
-- attributes of the file (2), and the offsets of the type list (2) and of the name list (2) from the beginning of the map.
-- Inside Macintosh: More Macintosh Toolbox, chapter 1, "Resource File Format".

-- So many places, each so many bytes after the one before it.
unfoldable pub spaced : ℕ → ℕ → ℕ → List ℕ
spaced gap zero at = []
spaced gap (suc n) at = at ∷ spaced gap n (at + gap)

-- How many things a list has: the word at a place is one less.
abbrev pub count_at : List ℕ → ℕ → ℕ
count_at content at = (number 2 at content + 1) % 0x10000

-- Where the type list stands, and where it ends: the number of types less one (2 bytes), and 8 bytes for each.
abbrev pub type_list : List ℕ → ℕ
type_list content = number 2 24 content

abbrev pub type_count : List ℕ → ℕ
type_count content = count_at content (type_list content)

abbrev pub types_end : List ℕ → ℕ
types_end content = type_list content + 2 + 8 * type_count content

-- The entries of the types: the type (4 bytes), the number of its references less one (2), and their offset from the type list (2).
abbrev pub entries : List ℕ → List ℕ
entries content = spaced 8 (type_count content) (type_list content + 2)

abbrev pub reference_count : List ℕ → ℕ → ℕ
reference_count content entry = count_at content (entry + 4)

abbrev pub first_reference : List ℕ → ℕ → ℕ
first_reference content entry = type_list content + number 2 (entry + 6) content

-- The references of a type, 12 bytes each: the ID (2), the offset of the name (2), the attributes and the offset of the data (4), and
-- the handle (4).
abbrev pub references : List ℕ → ℕ → List ℕ
references content entry = spaced 12 (reference_count content entry) (first_reference content entry)

-- The type list lies in the content, after the fixed part of a map, and the name list begins in it.
unfoldable pub has_types : List ℕ → Bool
has_types content =
    nat_le 28 (length content) && nat_le 28 (type_list content) && nat_le (types_end content) (length content)
    && nat_le (number 2 26 content) (length content)

-- The references of a type lie in the content.
unfoldable pub has_references : List ℕ → ℕ → Bool
has_references content entry =
    nat_le (first_reference content entry + 12 * reference_count content entry) (length content)

-- How many references there are of all types.
abbrev pub all_references : List ℕ → ℕ
all_references content = sum_by (reference_count content) (entries content)

-- They all have room beside each other, behind the types.
abbrev pub has_room : List ℕ → Bool
has_room content = nat_le (types_end content + 12 * all_references content) (length content)

-- A content is a resource map: the lists of types and of references lie in it.
unfoldable pub is_resource_map : List ℕ → Bool
is_resource_map content = has_types content && list_all (has_references content) (entries content) && has_room content

-- The handle and the resource of a reference of a type.
abbrev pub handle_at : Form → List ℕ → ℕ → ℕ
handle_at form content reference = address_in form (number 4 (reference + 8) content)

abbrev pub resource_at : List ℕ → ℕ → ℕ → Resource
resource_at content entry reference = record {
  kind = number 4 entry content;
  id = cast_signed w16 (number 2 reference content);
}

-- A thing that is found at a handle.
abbrev pub found_at : {A : Type 0} → ℕ → A → ℕ → Option A
found_at at thing handle = if at == handle then Some thing else None

-- The resource of a handle that a reference names, a type, a content that is a resource map, and a relocatable block: the first one.
abbrev pub named_by : Form → List ℕ → ℕ → ℕ → ℕ → Option Resource
named_by form content entry handle reference =
    found_at (handle_at form content reference) (resource_at content entry reference) handle

unfoldable pub named_in_type : Form → List ℕ → ℕ → ℕ → Option Resource
named_in_type form content handle entry = first_found (named_by form content entry handle) (references content entry)

unfoldable pub named_in_map : Form → ℕ → List ℕ → Option Resource
named_in_map form handle content =
    if is_resource_map content then first_found (named_in_type form content handle) (entries content) else None

unfoldable pub named_in_block : Form → List ℕ → ℕ → ℕ → Option Resource
named_in_block form bytes handle at =
    if is_relocatable (tag_at bytes at) then named_in_map form handle (content_at form bytes at) else None

-- The resource of a handle in a zone: the maps are taken in the order of their blocks, their types and references in theirs.
unfoldable pub resource_of : Form → List ℕ → ℕ → Option Resource
resource_of form bytes handle = first_found (named_in_block form bytes handle) (passed_places form bytes)
