use Rattle.std.specs.Prelude.{ℕ, ◌+◌, ◌*◌, not, nat_le, Option, Some, None, List, [], ◌∷◌, length, if◌then◌else◌}
use Rattle.std.specs.Int.{cast_signed, w16}
use Rattle.mac_words.specs.declared.name.OsType.{OsType}
use Rattle.fork_format.specs.Fork.{number, part, map_start, data_end, map_end, type_list, type_count, type_places}
use Rattle.fork_format.specs.Fork.{ref_places, name_place, name_fits, datum_place, datum_fits, all_refs, all_data}
use Rattle.fork_format.specs.Limits.{most_data, most_references}
use Rattle.fork_rules.specs.declared.rules.Rule.{Rule}
use Rattle.fork_rules.specs.declared.rules.Rule.TheVariants as rule
use Rattle.fork_rules.specs.declared.rules.Broken.{Broken}
use Rattle.fork_rules.specs.declared.rules.ResourceKey.{ResourceKey}

-- The first rule of the format that bytes break, and the offset of the field or the entry which breaks it. The rules are
-- those of `is_fork` (fork_format), in its order.
-- More Macintosh Toolbox, chapter 1, "Resource File Format".

-- A rule that is broken at an offset.
abbrev pub broken_at : Rule → ℕ → Option Broken
broken_at r at = Some (record { rule = r; at = at })

-- The first broken rule, if there is one; else that of what is tested next.
abbrev pub first : Option Broken → Option Broken → Option Broken
first (Some b) next = Some b
first None next = next

-- The first broken rule of what stands at the offsets, one after another.
abbrev pub first_of : (ℕ → Option Broken) → List ℕ → Option Broken
first_of test [] = None
first_of test (at ∷ places) = first (test at) (first_of test places)

-- The header lies in the bytes, and so do resource data and map; the map has 30 bytes or more.
abbrev pub broken_part : List ℕ → Option Broken
broken_part bytes =
    if not (nat_le 16 (length bytes)) then broken_at rule.HeaderCutOff 0
    else if not (nat_le (data_end bytes) (length bytes)) then broken_at rule.DataOutside 0
    else if not (nat_le (map_end bytes) (length bytes)) then broken_at rule.MapOutside 4
    else if not (nat_le (map_start bytes + 30) (map_end bytes)) then broken_at rule.MapTooShort 12
    else None

-- The type list lies in the map, and its types have no more references than are read. Where the type list begins stands
-- 24 bytes above the start of the map.
abbrev pub broken_list : List ℕ → Option Broken
broken_list bytes =
    if not (nat_le (type_list bytes + 2) (map_end bytes)) then broken_at rule.TypeListOutside (map_start bytes + 24)
    else if not (nat_le (type_list bytes + 2 + 8 * type_count bytes) (map_end bytes))
    then broken_at rule.EntriesOutside (type_list bytes)
    else if not (nat_le (all_refs bytes) most_references) then broken_at rule.TooManyReferences (type_list bytes)
    else None

-- The type in the entry at an offset.
abbrev pub type_in : List ℕ → ℕ → OsType
type_in bytes entry = record { 0 = part 4 entry bytes }

-- The type in the entry at an offset, and the ID in the reference at another offset.
abbrev pub key_in : List ℕ → ℕ → ℕ → ResourceKey
key_in bytes entry at = record { ty = type_in bytes entry; id = cast_signed w16 (number 2 at bytes) }

-- The reference at an offset, of the type whose entry is at another offset, lies in the map; so does its name, and its
-- stored data lies in the resource data. The offset of the name stands 2 bytes above the start of the reference, that of
-- the stored data 5 bytes.
abbrev pub broken_reference : List ℕ → ℕ → ℕ → Option Broken
broken_reference bytes entry at =
    if not (nat_le (at + 12) (map_end bytes)) then broken_at (rule.ReferenceOutside (type_in bytes entry)) entry
    else if not (name_fits (name_place at bytes) bytes)
    then broken_at (rule.NameOutside (key_in bytes entry at)) (at + 2)
    else if not (datum_fits (datum_place at bytes) bytes)
    then broken_at (rule.DatumOutside (key_in bytes entry at)) (at + 5)
    else None

-- The references of the type whose entry is at an offset.
abbrev pub broken_type : List ℕ → ℕ → Option Broken
broken_type bytes entry = first_of (broken_reference bytes entry) (ref_places entry bytes)

-- The stored data of all references keeps the limit.
abbrev pub broken_limit : List ℕ → Option Broken
broken_limit bytes = if not (nat_le (all_data bytes) most_data) then broken_at rule.TooMuchData (type_list bytes) else None

-- The first rule that bytes break, and where; none where they are a resource fork.
abbrev pub broken : List ℕ → Option Broken
broken bytes = first (broken_part bytes) (first (broken_list bytes)
    (first (first_of (broken_type bytes) (type_places bytes)) (broken_limit bytes)))
