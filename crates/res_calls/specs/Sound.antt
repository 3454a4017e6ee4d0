use Rattle.std.specs.Prelude.{◌≡◌, ℕ, Bool, true, false, not, ◌&&◌, ◌||◌, ◌==◌, nat_lt, is_some, Option, Some, None}
use Rattle.std.specs.Prelude.{List, [], ◌∷◌, length, if◌then◌else◌}
use Rattle.std.specs.List.{list_all}
use Rattle.fork_format.specs.Fork.{map_kept}
use Rattle.res_map.specs.Map.{Reference, is_changed}
use Rattle.res_calls.specs.Files.{OpenFile, Resources, file_of}
use Rattle.res_calls.specs.Fetch.{is_system}
use Rattle.res_calls.specs.Rows.{first_number}

-- What holds of the open files of an application at all times. More Macintosh Toolbox, chapter 1, "The Resource File
-- Search Path".

-- Holds where the numbers of the open files fall, and end with the number of the System file, 0.
abbrev pub falls : List OpenFile → Bool
falls [] = false
falls (f ∷ []) = f.number == 0
falls (f ∷ g ∷ older) = nat_lt g.number f.number && falls (g ∷ older)

-- Holds of an open file that has a place among the files, and of the System file without a place.
abbrev pub is_placed : ℕ → Option ℕ → Bool
is_placed count None = false
is_placed count (Some i) = nat_lt i count

abbrev pub has_place : ℕ → OpenFile → Bool
has_place count f = if is_system f then not (is_some f.file) else is_placed count f.file

-- Holds where each changed reference has a handle and the attributes of the resource map are those that a fork can
-- record. The content of the System file is left open, since the System file is never written.
abbrev pub keeps_handle : Reference → Bool
keeps_handle x = not (is_changed x) || is_some x.handle

abbrev pub is_kept : OpenFile → Bool
is_kept f = is_system f || (list_all keeps_handle f.map.references && map_kept f.map.attrs == f.map.attrs)

-- Holds of each file other than the System file, and of the System file where it is not touched.
abbrev pub is_untouched : OpenFile → Bool
is_untouched f = not (is_system f) || not f.touched

pub record Sound (r : Resources) : Type 0 where
  -- The file opened last comes first, the System file last, and the next number is greater than all.
  pub falls : falls r.chain ≡ true
  pub next : nat_lt (first_number r.chain) r.next ≡ true
  -- The current file is open.
  pub current : is_some (file_of r.current r) ≡ true
  pub placed : list_all (has_place (length r.files)) r.chain ≡ true
  pub kept : list_all is_kept r.chain ≡ true
  pub untouched : list_all is_untouched r.chain ≡ true
