use Rattle.std.specs.Prelude.{◌≡◌, ◌<◌, ◌^◌, ℕ, true, List, [], ◌∷◌, IfSome, bytes_eq, if◌then◌else◌, length, map}
use Rattle.std.specs.List.{AllByRecursion, list_all}
use Rattle.fork_format.specs.Canonical.{are_distinct, has_refs}
use Rattle.fork_format.specs.Content.{Content, Group, IsContent}
use Rattle.fork_edits.specs.Contents.{Entry, Listed}
use Rattle.fork_edits.specs.Filed.{Filed}
use Rattle.fork_edits.specs.Merging.{with_rows}
use Rattle.fork_edits.specs.Resources.{Row, row, rows}

-- The content that a list and the files that it names state.

-- A resource of which the list says all but the stored data.
abbrev pub packed_row : Entry → List ℕ → Row
packed_row e datum = row e.kind (record { id = e.id; name = e.name; attrs = e.attrs; datum = datum })

-- The resources of the list in the order of their lines, each with the bytes of its file.
abbrev pub packed_rows : List Entry → List (List ℕ) → List Row
packed_rows [] files = []
packed_rows (e ∷ entries) [] = []
packed_rows (e ∷ entries) (bytes ∷ files) = packed_row e bytes ∷ packed_rows entries files

-- The content: a resource whose type stood before is the last one of its type so far, and a new type stands after the others.
abbrev pub packed_content : Listed → List (List ℕ) → Content
packed_content l files = record { area = l.area; attrs = l.attrs; groups = with_rows (packed_rows l.entries files) [] }

-- The bytes of the files that a list names, in a folder.
abbrev pub named_files : (List ℕ → List ℕ) → Listed → List (List ℕ)
named_files folder l = map (λ (e : Entry). folder e.file) l.entries

-- The folder has the files to which resources are written: under each name the stored data of the resource.
abbrev pub HasFiles : (List ℕ → List ℕ) → List Filed → Type 0
HasFiles folder files = AllByRecursion (λ (f : Filed). folder f.file ≡ f.row.resource.datum) files

-- The bytes of a file in a folder in which the files of resources were written; none where no file has the name.
abbrev pub file_bytes : List Filed → List ℕ → List ℕ
file_bytes [] name = []
file_bytes (f ∷ files) name = if bytes_eq f.file name then f.row.resource.datum else file_bytes files name

-- The name of a resource, if it has one, is bytes.
abbrev pub HasByteName : Row → Type 0
HasByteName x = IfSome x.resource.name (AllByRecursion (λ b. b < 256))

-- A content that can be listed: its parts keep their limits, each type stands once and has resources, its area and the names of its
-- resources are bytes, and its resources can be numbered.
pub record IsListable (c : Content) : Type 0 where
  pub limits : IsContent c
  pub types : are_distinct (map (λ (g : Group). g.kind) c.groups) ≡ true
  pub resources : list_all has_refs c.groups ≡ true
  pub area : AllByRecursion (λ b. b < 256) c.area
  pub names : AllByRecursion HasByteName (rows c.groups)
  pub few : length (rows c.groups) < 2 ^ 32
