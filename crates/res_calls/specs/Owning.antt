use Rattle.std.specs.Prelude.{◌≡◌, ℕ, ◌≤◌, ◌<◌, Option, List, count_by}
use Rattle.std.specs.List.{flat_map}
use Rattle.std.specs.Option.{option_map}
use Rattle.heap_calls.specs.State.{Role}
use Rattle.heap_calls.specs.Inside.{resource_role}
use Rattle.heap_calls.specs.Owned.{resource_role_at}
use Rattle.res_map.specs.Map.{Reference, has_handle}
use Rattle.res_calls.specs.Files.{OpenFile, Found, find_open}
use Rattle.res_calls.specs.Fetch.{Managers, is_system}

-- The owner of each resource's handle. More Macintosh Toolbox, chapter 1, "Using the Resource Manager".

-- The references of the open files, in order.
abbrev pub references : List OpenFile → List Reference
references chain = flat_map (λ f. f.map.references) chain

-- The role of the handles of a file's resources.
abbrev pub role_in : OpenFile → Role
role_in f = resource_role (is_system f)

-- The role of the found reference's handle, where a reference was found.
abbrev pub role_for : Option Found → Option Role
role_for found = option_map (λ (at : Found). role_in at.file.here) found

-- Each resource has its own handle: no two references have one handle; a handle that a reference has is a resource's
-- handle, in the role that the reference's file determines; a handle that no reference has is not a resource's. No file
-- that is opened gets the number of the System file.
-- See decision 66 (an invariant stands where all that it names is at hand).
pub record Owns (s : Managers) : Type 0 where
  pub apart : (h : ℕ) → count_by (has_handle h) (references s.resources.chain) ≤ 1
  pub owned : (h : ℕ) → role_for (find_open (has_handle h) s.resources) ≡ resource_role_at h s.memory.heap
  pub numbered : 0 < s.resources.next
