use Rattle.std.specs.Prelude.{ℕ, ◌+◌, ◌-◌, ◌*◌, ◌%◌, Bool, true, ◌&&◌, not, ◌==◌, nat_le, Option, Some, None, List}
use Rattle.std.specs.Prelude.{[], ◌∷◌, ◌++◌, length, map, replicate}
use Rattle.std.specs.List.{flat_map, list_all}
use Rattle.std.specs.Int.{cast_unsigned, w16}
use Rattle.byteorder.specs.Endian.{big_bytes}
use Rattle.fork_format.specs.Content.{Ref, Group, Content, refs_of}
use Rattle.fork_format.specs.Fork.{kept, map_kept}
use Rattle.fork_format.specs.Limits.{most_data, most_offset, no_name, most_name_offset, most_datum_offset}

-- The one fork that is written for a content (its canonical fork), and the contents that can be written.
-- More Macintosh Toolbox, chapter 1, "Resource File Format".

-- The stored data of a resource, with its length of four bytes before it.
abbrev pub datum : Ref → List ℕ
datum r = big_bytes 4 (length r.datum) ++ r.datum

-- A name with its length of one byte before it; no bytes where there is no name.
abbrev pub name_or_none : Option (List ℕ) → List ℕ
name_or_none None = []
name_or_none (Some name) = length name ∷ name

-- The name of a resource with its length; no bytes where the resource has no name.
abbrev pub name : Ref → List ℕ
name r = name_or_none r.name

-- The offset of a name; FFFF where there is no name.
abbrev pub name_offset : Option (List ℕ) → ℕ → ℕ
name_offset None at = no_name
name_offset (Some name) at = at

-- A reference of 12 bytes, whose stored data and name stand at these offsets.
abbrev pub reference : ℕ → ℕ → Ref → List ℕ
reference datum_start name_start r = big_bytes 2 (cast_unsigned w16 r.id) ++ big_bytes 2 (name_offset r.name name_start)
    ++ big_bytes 1 r.attrs ++ big_bytes 3 datum_start ++ big_bytes 4 0

-- References whose stored data and names stand one after another from these offsets on.
abbrev pub references : ℕ → ℕ → List Ref → List ℕ
references datum_start name_start [] = []
references datum_start name_start (r ∷ refs) = reference datum_start name_start r
    ++ references (datum_start + length (datum r)) (name_start + length (name r)) refs

-- The entries of types whose references stand one after another from this offset on.
abbrev pub types : ℕ → List Group → List ℕ
types at [] = []
types at (g ∷ groups) = big_bytes 4 g.kind ++ big_bytes 2 (length g.refs - 1) ++ big_bytes 2 at
    ++ types (at + 12 * length g.refs) groups

-- The offset of the references from the type list.
abbrev pub refs_offset : List Group → ℕ
refs_offset groups = 2 + 8 * length groups

-- The offset of the name list from the start of the map.
abbrev pub names_offset : List Group → ℕ
names_offset groups = 28 + refs_offset groups + 12 * length (refs_of groups)

-- The resource data of a fork: the stored data of each resource with its length.
abbrev pub data_of : List Group → List ℕ
data_of groups = flat_map datum (refs_of groups)

-- The name list of a fork: the name of each resource with its length.
abbrev pub names_of : List Group → List ℕ
names_of groups = flat_map name (refs_of groups)

-- The type list, the references and the names.
abbrev pub lists : List Group → List ℕ
lists groups = big_bytes 2 ((length groups + 65535) % 65536) ++ types (refs_offset groups) groups
    ++ references 0 0 (refs_of groups) ++ names_of groups

-- The header: the offsets and the lengths of resource data and map.
abbrev pub header : List Group → List ℕ
header groups = big_bytes 4 256 ++ big_bytes 4 (256 + length (data_of groups))
    ++ big_bytes 4 (length (data_of groups)) ++ big_bytes 4 (28 + length (lists groups))

-- The map: the header again, the next map, the file number, the attributes, the offsets of type list and name list, and
-- the lists.
abbrev pub map_of : ℕ → List Group → List ℕ
map_of attrs groups = header groups ++ replicate 6 0 ++ big_bytes 2 attrs ++ big_bytes 2 28
    ++ big_bytes 2 (names_offset groups) ++ lists groups

-- The canonical fork of a content: the one fork that is written for it.
abbrev pub canon : Content → List ℕ
canon c = header c.groups ++ c.area ++ data_of c.groups ++ map_of c.attrs c.groups

-- A resource as it is read again: without resChanged.
-- See decision 58 (what a reader clears, a writer keeps).
abbrev pub clear_ref : Ref → Ref
clear_ref r = record r { attrs = kept r.attrs }

-- A group as it is read again.
abbrev pub clear_group : Group → Group
clear_group g = record g { refs = map clear_ref g.refs }

-- A content as it is read again: without the bits that a reader clears.
abbrev pub clear : Content → Content
clear c = record c { attrs = map_kept c.attrs; groups = map clear_group c.groups }

-- The offsets from the first one on, each above an item of the given length.
abbrev pub starts : ℕ → List ℕ → List ℕ
starts at [] = []
starts at (n ∷ lengths) = at ∷ starts (at + n) lengths

-- Each of the offsets is at most the limit.
abbrev pub all_within : ℕ → List ℕ → Bool
all_within limit offsets = list_all (λ at. nat_le at limit) offsets

-- The offsets of the references of each type in the canonical fork, from the type list.
abbrev pub list_starts : List Group → List ℕ
list_starts groups = starts (refs_offset groups) (map (λ g. 12 * length g.refs) groups)

-- The offsets of the stored data in the canonical fork, from the start of the resource data.
abbrev pub data_starts : List Ref → List ℕ
data_starts refs = starts 0 (map (λ r. length (datum r)) refs)

-- The offset of a name, if there is one, before other offsets.
abbrev pub name_start : ℕ → Option (List ℕ) → List ℕ → List ℕ
name_start at None others = others
name_start at (Some name) others = at ∷ others

-- The offsets of the names in the canonical fork, from the name list.
abbrev pub name_starts : ℕ → List Ref → List ℕ
name_starts at [] = []
name_starts at (r ∷ refs) = name_start at r.name (name_starts (at + length (name r)) refs)

-- The group is not empty.
abbrev pub has_refs : Group → Bool
has_refs g = nat_le 1 (length g.refs)

-- No number stands twice in the list.
abbrev pub are_distinct : List ℕ → Bool
are_distinct [] = true
are_distinct (n ∷ ns) = list_all (λ m. not (m == n)) ns && are_distinct ns

-- The content can be written as a resource fork.
abbrev pub fits : Content → Bool
fits c =
    list_all has_refs c.groups && are_distinct (map (λ g. g.kind) c.groups) && nat_le (length c.groups) most_offset
    && all_within most_offset (list_starts c.groups) && nat_le (names_offset c.groups) most_offset
    && all_within most_name_offset (name_starts 0 (refs_of c.groups))
    && all_within most_datum_offset (data_starts (refs_of c.groups)) && nat_le (length (data_of c.groups)) most_data
