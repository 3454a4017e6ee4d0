use Rattle.std.specs.Prelude.{ℕ, ◌+◌, ◌-◌, Bool, not, List, [], ◌∷◌, map, filter, drop, if◌then◌else◌}
use Rattle.std.specs.List.{flat_map}
use Rattle.std.specs.Str.{bytes_eq}
use Rattle.std.specs.Cmp.Lexicographic.{pointwise}
use Rattle.fork_format.specs.Fork.{number, part, data_start, map_start, map_end, type_list, name_list, type_places}
use Rattle.fork_format.specs.Fork.{ref_places}
use Rattle.fork_rules.specs.declared.regions.Region.{Region}
use Rattle.fork_rules.specs.declared.regions.Region.TheVariants as region
use Rattle.fork_rules.specs.declared.regions.TheConstants.{REGIONS}

-- The regions of a resource fork, each where the fork itself has it, and those in which two forks differ.
-- More Macintosh Toolbox, chapter 1, "Resource File Format".

-- Where the references of all types stand, in the order of the type list.
abbrev pub all_places : List ℕ → List ℕ
all_places bytes = flat_map (λ type. ref_places type bytes) (type_places bytes)

-- The n bytes at a distance from each of the places.
abbrev pub column : ℕ → ℕ → List ℕ → List ℕ → List (List ℕ)
column n distance places bytes = map (λ at. part n (at + distance) bytes) places

-- A region: one part of the bytes, or a field of each entry of the type list or of each reference. A copy of the header
-- that is the same as the header has no bytes of its own.
abbrev pub bytes_of : Region → List ℕ → List (List ℕ)
bytes_of region.DataOffset bytes = part 4 0 bytes ∷ []
bytes_of region.MapOffset bytes = part 4 4 bytes ∷ []
bytes_of region.DataLength bytes = part 4 8 bytes ∷ []
bytes_of region.MapLength bytes = part 4 12 bytes ∷ []
bytes_of region.Area bytes = part 240 16 bytes ∷ []
bytes_of region.Data bytes = part (number 4 8 bytes) (data_start bytes) bytes ∷ []
bytes_of region.HeaderCopy bytes =
    if bytes_eq (part 16 (map_start bytes) bytes) (part 16 0 bytes) then [] else part 16 (map_start bytes) bytes ∷ []
bytes_of region.NextMap bytes = part 4 (map_start bytes + 16) bytes ∷ []
bytes_of region.FileNumber bytes = part 2 (map_start bytes + 20) bytes ∷ []
bytes_of region.MapAttributes bytes = part 2 (map_start bytes + 22) bytes ∷ []
bytes_of region.TypeListOffset bytes = part 2 (map_start bytes + 24) bytes ∷ []
bytes_of region.NameListOffset bytes = part 2 (map_start bytes + 26) bytes ∷ []
bytes_of region.TypeCount bytes = part 2 (type_list bytes) bytes ∷ []
bytes_of region.Types bytes = column 4 0 (type_places bytes) bytes
bytes_of region.Counts bytes = column 2 4 (type_places bytes) bytes
bytes_of region.ListOffsets bytes = column 2 6 (type_places bytes) bytes
bytes_of region.Ids bytes = column 2 0 (all_places bytes) bytes
bytes_of region.NameOffsets bytes = column 2 2 (all_places bytes) bytes
bytes_of region.Attributes bytes = column 1 4 (all_places bytes) bytes
bytes_of region.DatumOffsets bytes = column 3 5 (all_places bytes) bytes
bytes_of region.Handles bytes = column 4 8 (all_places bytes) bytes
bytes_of region.Names bytes = part (map_end bytes - name_list bytes) (name_list bytes) bytes ∷ []
bytes_of region.Rest bytes = drop (map_end bytes) bytes ∷ []

-- Two forks differ in a region.
abbrev pub differs : List ℕ → List ℕ → Region → Bool
differs bytes others r = not (pointwise bytes_eq (bytes_of r bytes) (bytes_of r others))

-- The regions in which two forks differ, in order.
abbrev pub differences : List ℕ → List ℕ → List Region
differences bytes others = filter (differs bytes others) REGIONS
