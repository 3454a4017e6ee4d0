use Rattle.std.specs.Prelude.{◌≡◌, ℕ, ◌+◌, ◌*◌, ◌%◌, Bool, true, ◌&&◌, IsTrue, ◌==◌, nat_le, Option, Some, None, List}
use Rattle.std.specs.Prelude.{[], ◌∷◌, length, map, take, drop, sum_by, replicate, if◌then◌else◌, bit_and, zero, suc}
use Rattle.std.specs.List.{list_all}
use Rattle.std.specs.Int.{cast_signed, w16}
use Rattle.byteorder.specs.Endian.{big_number}
use Rattle.mac_words.specs.Attributes.{unchanged}
use Rattle.fork_format.specs.Content.{Ref, Group, Content, joined}
use Rattle.fork_format.specs.Limits.{most_data, most_references, no_name}

-- What bytes spell. Each part of a resource fork is given by its offset into the whole bytes, and a read past the end
-- of the bytes is 0.
-- More Macintosh Toolbox, chapter 1, "Resource File Format".

-- The big-endian number of n bytes at an offset.
abbrev pub number : ℕ → ℕ → List ℕ → ℕ
number n at bytes = big_number n (drop at bytes)

-- The n bytes at an offset.
abbrev pub part : ℕ → ℕ → List ℕ → List ℕ
part n at bytes = take n (drop at bytes)

-- A list of n offsets: the first one, and each next one a step further.
abbrev pub offsets : ℕ → ℕ → ℕ → List ℕ
offsets first step zero = []
offsets first step (suc n) = first ∷ offsets (first + step) step n

-- Where the resource data begins.
abbrev pub data_start : List ℕ → ℕ
data_start bytes = number 4 0 bytes

-- Where the map begins.
abbrev pub map_start : List ℕ → ℕ
map_start bytes = number 4 4 bytes

-- Where the resource data ends.
abbrev pub data_end : List ℕ → ℕ
data_end bytes = data_start bytes + number 4 8 bytes

-- Where the map ends.
abbrev pub map_end : List ℕ → ℕ
map_end bytes = map_start bytes + number 4 12 bytes

-- Where the type list begins.
abbrev pub type_list : List ℕ → ℕ
type_list bytes = map_start bytes + number 2 (map_start bytes + 24) bytes

-- Where the name list begins.
abbrev pub name_list : List ℕ → ℕ
name_list bytes = map_start bytes + number 2 (map_start bytes + 26) bytes

-- The number of types; FFFF in the fork stands for 0.
abbrev pub type_count : List ℕ → ℕ
type_count bytes = (number 2 (type_list bytes) bytes + 1) % 65536

-- Where the entries of the types stand.
abbrev pub type_places : List ℕ → List ℕ
type_places bytes = offsets (type_list bytes + 2) 8 (type_count bytes)

-- The number of references of the type whose entry is at an offset; FFFF in the fork stands for 65,536.
abbrev pub ref_count : List ℕ → ℕ → ℕ
ref_count bytes type = number 2 (type + 4) bytes + 1

-- Where the references of the type whose entry is at an offset stand.
abbrev pub ref_places : ℕ → List ℕ → List ℕ
ref_places type bytes = offsets (type_list bytes + number 2 (type + 6) bytes) 12 (ref_count bytes type)

-- Where the name of the reference at an offset stands; FFFF in the fork stands for no name.
abbrev pub name_place : ℕ → List ℕ → Option ℕ
name_place ref bytes = if number 2 (ref + 2) bytes == no_name then None else Some
    (name_list bytes + number 2 (ref + 2) bytes)

-- The name at a place: its length, then its bytes.
abbrev pub name_at : Option ℕ → List ℕ → Option (List ℕ)
name_at None bytes = None
name_at (Some at) bytes = Some (part (number 1 at bytes) (at + 1) bytes)

-- Where the stored data of the reference at an offset stands.
abbrev pub datum_place : ℕ → List ℕ → ℕ
datum_place ref bytes = data_start bytes + number 3 (ref + 5) bytes

-- The stored data at a place: its length of four bytes, then its bytes.
abbrev pub datum_at : ℕ → List ℕ → List ℕ
datum_at at bytes = part (number 4 at bytes) (at + 4) bytes

-- The attributes of a resource that are kept: all but resChanged.
abbrev pub kept : ℕ → ℕ
kept attrs = unchanged attrs

-- The attributes of the map that are kept: all but mapCompact and mapChanged, whose values are 64 and 32.
abbrev pub map_kept : ℕ → ℕ
map_kept attrs = bit_and attrs 65439

-- The resource of the reference at an offset.
abbrev pub ref_at : List ℕ → ℕ → Ref
ref_at bytes at = record {
  id = cast_signed w16 (number 2 at bytes);
  name = name_at (name_place at bytes) bytes;
  attrs = kept (number 1 (at + 4) bytes);
  datum = datum_at (datum_place at bytes) bytes;
}

-- The type in the entry at an offset, as a number.
abbrev pub kind_in : List ℕ → ℕ → ℕ
kind_in bytes at = number 4 at bytes

-- The group of the type whose entry is at an offset.
abbrev pub group_at : List ℕ → ℕ → Group
group_at bytes at = record { kind = kind_in bytes at; refs = map (ref_at bytes) (ref_places at bytes) }

-- The 240 bytes after the header, where there are 256 bytes and neither the resource data nor the map begins below the
-- offset 256; else 240 bytes 0.
abbrev pub area_of : List ℕ → List ℕ
area_of bytes = if nat_le 256 (length bytes) && nat_le 256 (data_start bytes)
    && nat_le 256 (map_start bytes) then part 240 16 bytes else replicate 240 0

-- The content that the parts of a fork spell.
abbrev pub content_of : List ℕ → Content
content_of bytes = record {
  area = area_of bytes;
  attrs = map_kept (number 2 (map_start bytes + 22) bytes);
  groups =
      joined (map (group_at bytes) (type_places bytes));
}

-- A name with its length byte lies in the map.
abbrev pub name_fits : Option ℕ → List ℕ → Bool
name_fits None bytes = true
name_fits (Some at) bytes = nat_le (at + 1) (map_end bytes) && nat_le (at + 1 + number 1 at bytes) (map_end bytes)

-- The stored data at a place lies in the resource data, with its length.
abbrev pub datum_fits : ℕ → List ℕ → Bool
datum_fits at bytes = nat_le (at + 4) (data_end bytes) && nat_le (at + 4 + number 4 at bytes) (data_end bytes)

-- The reference at an offset and its name lie in the map, and its stored data in the resource data.
abbrev pub ref_fits : List ℕ → ℕ → Bool
ref_fits bytes at = nat_le (at + 12) (map_end bytes) && name_fits (name_place at bytes) bytes
    && datum_fits (datum_place at bytes) bytes

-- The type list lies in the map.
abbrev pub types_fit : List ℕ → Bool
types_fit bytes = nat_le (type_list bytes + 2) (map_end bytes)
    && nat_le (type_list bytes + 2 + 8 * type_count bytes) (map_end bytes)

-- The references of the type whose entry is at an offset lie in the map, with their names, and their stored data in the
-- resource data.
abbrev pub refs_fit : List ℕ → ℕ → Bool
refs_fit bytes type = list_all (ref_fits bytes) (ref_places type bytes)

-- The header, the resource data and the map lie in the bytes.
abbrev pub parts_fit : List ℕ → Bool
parts_fit bytes = nat_le 16 (length bytes) && nat_le (data_end bytes) (length bytes)
    && nat_le (map_end bytes) (length bytes) && nat_le (map_start bytes + 30) (map_end bytes)

-- The size of the stored data of the reference at an offset, with its length.
abbrev pub ref_size : List ℕ → ℕ → ℕ
ref_size bytes ref = 4 + number 4 (datum_place ref bytes) bytes

-- The total size of the stored data of the references of a type, with its lengths.
abbrev pub type_size : List ℕ → ℕ → ℕ
type_size bytes type = sum_by (ref_size bytes) (ref_places type bytes)

-- The number of references of all types.
abbrev pub all_refs : List ℕ → ℕ
all_refs bytes = sum_by (ref_count bytes) (type_places bytes)

-- The total size of the stored data of all references, with its lengths.
abbrev pub all_data : List ℕ → ℕ
all_data bytes = sum_by (type_size bytes) (type_places bytes)

-- The bytes spell a content: their parts lie where they must, and keep the limits.
-- See decision 126 (the limits of a fork that is read stand in its grammar).
abbrev pub is_fork : List ℕ → Bool
is_fork bytes =
    parts_fit bytes && types_fit bytes && nat_le (all_refs bytes) most_references
    && list_all (refs_fit bytes) (type_places bytes) && nat_le (all_data bytes) most_data

-- The bytes spell the content c: the bytes spell a content, and their parts say c.
-- See decision 125 (what bytes spell is a test and a content).
pub record Spells (bytes : List ℕ) (c : Content) : Type 0 where
  pub fork : IsTrue (is_fork bytes)
  pub content : content_of bytes ≡ c

-- The bytes spell no content.
abbrev pub IsUnspelled : List ℕ → Type 0
IsUnspelled bytes = (c : Content) → ¬ (Spells bytes c)
