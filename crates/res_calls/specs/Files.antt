use Rattle.std.specs.Prelude.{ℕ, Bool, true, false, ◌==◌, nat_le, bytes_eq, Option, Some, None, List, [], ◌∷◌}
use Rattle.std.specs.Prelude.{if◌then◌else◌, option_map}
use Rattle.std.specs.Option.{option_or}
use Rattle.mac_words.specs.declared.code.OsErr.{OsErr}
use Rattle.mac_words.specs.declared.code.TheConstants.OsErr.{NO_ERR}
use Rattle.res_map.specs.Split.{Split, split, replaced, behind}
use Rattle.res_map.specs.Map.{Reference, Map}

-- The files of an application, and those of the files that are open. More Macintosh Toolbox, chapter 1, "The Resource
-- File Search Path".

-- A file of the application: its name, the bytes of its resource fork, and whether the fork was written.
pub record File : Type 0 where
  pub name : List ℕ
  pub fork : List ℕ
  pub written : Bool

-- An open file: its number, its place among the files (None for the System file), its resource map, and whether the
-- file is touched.
pub record OpenFile : Type 0 where
  pub number : ℕ
  pub file : Option ℕ
  pub map : Map
  pub touched : Bool

-- The resources of an application: its files; the open files, the file opened last first; the number of the current
-- file; the number that the next opened file gets; whether loading is on; whether purging stores what was changed; and
-- the code that ResError returns.
pub record Resources : Type 0 where
  pub files : List File
  pub chain : List OpenFile
  pub current : ℕ
  pub next : ℕ
  pub loading : Bool
  pub purging : Bool
  pub error : OsErr

-- A reference that was found in an open file.
pub record Found : Type 0 where
  pub file : Split OpenFile
  pub reference : Split Reference

-- The find of a reference in the first of the open files, and of a reference in a file after the first.
abbrev pub found_in : OpenFile → List OpenFile → Split Reference → Found
found_in f older at = record { file = record { before = []; here = f; after = older }; reference = at }

abbrev pub found_behind : OpenFile → Found → Found
found_behind f at = record at { file = behind f at.file }

-- The first reference that passes `test`, in the first of the open files within `within` that has such a reference.
abbrev pub find : (OpenFile → Bool) → (Reference → Bool) → List OpenFile → Option Found
find within test [] = None
find within test (f ∷ older) = option_or
    (if within f then option_map (found_in f older) (split test f.map.references) else None)
    (option_map (found_behind f) (find within test older))

-- The first reference that passes `test` on the search path, in the current file alone, and in any open file.
abbrev pub find_from_current : (Reference → Bool) → Resources → Option Found
find_from_current test r = find (λ f. nat_le f.number r.current) test r.chain

abbrev pub find_in_current : (Reference → Bool) → Resources → Option Found
find_in_current test r = find (λ f. f.number == r.current) test r.chain

abbrev pub find_open : (Reference → Bool) → Resources → Option Found
find_open test r = find (λ f. true) test r.chain

-- The open files where the found reference is replaced by `x`.
abbrev pub with_reference : Reference → Found → List OpenFile
with_reference x at =
    replaced (record at.file.here { map = record at.file.here.map { references = replaced x at.reference } }) at.file

-- The resources where the handle of the found reference is the given one, or None.
abbrev pub holding : Option ℕ → Found → Resources → Resources
holding handle at r = record r { chain = with_reference (record at.reference.here { handle = handle }) at }

-- The open file whose number is `n`.
abbrev pub file_of : ℕ → Resources → Option (Split OpenFile)
file_of n r = split (λ f. f.number == n) r.chain

-- The references of an open file, or none where the file is not open.
abbrev pub references_in : Option (Split OpenFile) → List Reference
references_in None = []
references_in (Some at) = at.here.map.references

-- The references of the current file.
abbrev pub current_references : Resources → List Reference
current_references r = references_in (file_of r.current r)

-- The file whose name is `name`; names are compared byte by byte.
abbrev pub file_named : List ℕ → Resources → Option (Split File)
file_named name r = split (λ f. bytes_eq f.name name) r.files

-- Holds of the place `i`; and the open file that stands at place `i` among the files.
abbrev pub is_at : ℕ → Option ℕ → Bool
is_at i None = false
is_at i (Some j) = j == i

abbrev pub open_at : ℕ → Resources → Option (Split OpenFile)
open_at i r = split (λ f. is_at i f.file) r.chain

-- A file that is opened under the number `n` with the resource map `read`.
abbrev pub opened : ℕ → Option ℕ → Map → OpenFile
opened n file read = record { number = n; file = file; map = read; touched = false }

-- The resources of an application at its launch: its own file is open as number 2 and current, before the System file.
abbrev pub fresh_resources : List File → Map → Map → Resources
fresh_resources files own system = record {
  files = files;
  chain = opened 2 (Some 0) own ∷ opened 0 None system ∷ [];
  current = 2;
  next = 3;
  loading = true;
  purging = false;
  error = NO_ERR;
}
