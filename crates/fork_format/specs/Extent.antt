use Rattle.std.specs.Prelude.{◌≡◌, ◌≤◌, ℕ, ◌+◌, ◌*◌, Bool, true, ◌&&◌, nat_le, Option, Some, None, List, [], ◌∷◌}
use Rattle.std.specs.Prelude.{length, if◌then◌else◌}
use Rattle.std.specs.List.{list_all}
use Rattle.fork_format.specs.declared.fit.Starts.{Starts}
use Rattle.fork_format.specs.declared.fit.Extents.{Extents}
use Rattle.fork_format.specs.Content.{Ref, Group}
use Rattle.fork_format.specs.Canonical.{datum, name, data_of, names_of, names_offset}
use Rattle.fork_format.specs.Limits.{most_data, most_offset, most_name_offset, most_datum_offset}

-- A name, where there is one, may begin at the offset.
abbrev pub is_name_low : ℕ → Option (List ℕ) → Bool
is_name_low at None = true
is_name_low at (Some name) = nat_le at most_name_offset

-- A resource's stored data and name may begin at these offsets, and the stored data ends within the limit.
abbrev pub is_low : Starts → Ref → Bool
is_low s r = nat_le s.datum most_datum_offset && is_name_low s.name r.name && nat_le (s.datum + length (datum r)) most_data

-- Where the stored data and the name of the next resource begin.
abbrev pub next : Starts → Ref → Starts
next s r = record { datum = s.datum + length (datum r); name = s.name + length (name r) }

-- Where stored data and names begin after these resources; none where those of one of the resources may not begin where
-- they do.
abbrev pub behind : Starts → List Ref → Option Starts
behind s [] = Some s
behind s (r ∷ refs) = if is_low s r then behind (next s r) refs else None

-- The start of the resource data, and the start of the name list.
abbrev pub no_starts : Starts
no_starts = record { datum = 0; name = 0 }

-- Where the references end, from the type list; none where a group is empty, or where the name list may not begin
-- there.
abbrev pub refs_end : ℕ → List Group → Option ℕ
refs_end at [] = if nat_le at 65507 then Some at else None
refs_end at (g ∷ groups) = if nat_le 1 (length g.refs) then refs_end (at + 12 * length g.refs) groups else None

-- The length of the stored data fits its four bytes.
abbrev pub is_short : Ref → Bool
is_short r = nat_le (length r.datum) most_data

-- The lengths of the stored data of a group's resources fit their four bytes.
abbrev pub are_short : Group → Bool
are_short g = list_all is_short g.refs

-- The sizes of the parts of a canonical fork.
pub record AreExtents (e : Extents) (groups : List Group) : Type 0 where
  pub names_at : 28 + e.refs_end ≡ names_offset groups
  pub data_len : e.data_len ≡ length (data_of groups)
  pub names_len : e.names_len ≡ length (names_of groups)
  pub low : 28 + e.refs_end ≤ most_offset
  pub small : e.data_len ≤ most_data
  pub short : e.names_len ≤ 65790
