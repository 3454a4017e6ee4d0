use Rattle.std.specs.Prelude.{◌≢◌, ℕ, ◌+◌, Bool, is_some, List, [], ◌∷◌, map, if◌then◌else◌}
use Rattle.std.specs.List.{AllByRecursion}
use Rattle.std.specs.Str.{str_to_ascii_lowercase}
use Rattle.fork_edits.specs.FileNames.{file_name}
use Rattle.fork_edits.specs.FixedNames.{fixed_name}
use Rattle.fork_edits.specs.Resources.{Row}
use Rattle.fork_edits.specs.Twins.{twin}

-- The names of the files to which the resources of a fork are written.

-- A resource and the name of its file.
pub record Filed : Type 0 where
  pub file : List ℕ
  pub row : Row

-- By type and ID.
abbrev pub filed_fixed : Row → Filed
filed_fixed x = record { file = fixed_name x.kind x.resource.id; row = x }

-- By number, type, ID and name.
abbrev pub filed_numbered : ℕ → Row → Filed
filed_numbered n x = record { file = file_name n x; row = x }

-- By number, from n on.
abbrev pub numbered_from : ℕ → List Row → List Filed
numbered_from n [] = []
numbered_from n (x ∷ xs) = filed_numbered n x ∷ numbered_from (n + 1) xs

-- All by number, or all by type and ID.
abbrev pub filed_by : Bool → List Row → List Filed
filed_by numbered xs = if numbered then numbered_from 1 xs else map filed_fixed xs

-- By type and ID, unless two of them have one type and ID: then all by number.
abbrev pub filed : List Row → List Filed
filed xs = filed_by (is_some (twin xs)) xs

-- No file has the name of another one, also where letters in either case are taken for the same.
abbrev pub HasNoName : Filed → List Filed → Type 0
HasNoName f files = AllByRecursion (λ (g : Filed). str_to_ascii_lowercase f.file ≢ str_to_ascii_lowercase g.file) files

abbrev pub AreApart : List Filed → Type 0
AreApart [] = Unit {0}
AreApart (f ∷ files) = HasNoName f files × AreApart files
