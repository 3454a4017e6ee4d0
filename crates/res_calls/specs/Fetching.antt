use Rattle.std.specs.Prelude.{◌≡◌, ◌⊎◌, ℕ, ◌+◌, Bool, true, false, Option, None, Some, Ok, List, ◌∷◌, map, slice_get}
use Rattle.std.specs.List.{flat_map}
use Rattle.res_map.specs.Split.{Split, place}
use Rattle.res_map.specs.Map.{Map, with_handle}
use Rattle.res_calls.specs.Files.{File, OpenFile, Resources, file_named, opened}
use Rattle.res_calls.specs.Rows.{map_in}
use Rattle.res_calls.specs.Asked.{ResourceAsked, GetResource, Get1Resource, GetNamedResource, Get1NamedResource}
use Rattle.res_calls.specs.Asked.{GetIndResource, LoadResource}

-- What a fetch may change of the resources, whatever blocks it purges. More Macintosh Toolbox, chapter 1, "Reading
-- Resources into Memory" and "Releasing Resources".

-- Holds of the calls that fetch resources.
abbrev pub fetches : ResourceAsked → Bool
fetches (GetResource kind id) = true
fetches (Get1Resource kind id) = true
fetches (GetNamedResource kind name) = true
fetches (Get1NamedResource kind name) = true
fetches (GetIndResource among kind index) = true
fetches (LoadResource handle) = true
fetches asked = false

-- An open file without the handles of its resources.
abbrev pub without_handles : OpenFile → OpenFile
without_handles f = record f { map = record f.map { references = map (with_handle None) f.map.references } }

-- The resources without any handle: the files with their forks, and the type, ID, name, attributes and stored data of
-- each resource, in order.
abbrev pub outside_heap : Resources → Resources
outside_heap r = record r { chain = map without_handles r.chain }

-- The handle of each reference of the open files, in order.
abbrev pub handles_in : OpenFile → List (Option ℕ)
handles_in f = map (λ x. x.handle) f.map.references

abbrev pub handles : List OpenFile → List (Option ℕ)
handles chain = flat_map handles_in chain

-- Each of the references that has a handle keeps it.
abbrev pub KeepHandles : List OpenFile → List OpenFile → Type 0
KeepHandles before after =
    (i h : ℕ) → slice_get (handles before) i ≡ Some (Some h) → slice_get (handles after) i ≡ Some (Some h)

-- The resources after a fetch: handles were given to references that had none, and the code that ResError returns was
-- set. All else is as it was.
pub record OnlyGivesHandles (before after : Resources) : Type 0 where
  pub outside : outside_heap after ≡ outside_heap (record before { error = after.error })
  pub kept : KeepHandles before.chain after.chain

-- The resources after a file is opened: the file has the next number and comes before the other open files, as its fork
-- spells it but for the handles that preloading gave. All else is as it was.
abbrev pub Opens : List ℕ → Resources → Resources → Type 0
Opens name before after = (at : Split File) × (read : Map) × (f : OpenFile) × (file_named name before ≡ Some at)
    × (map_in at.here.fork ≡ Ok read)
    × (without_handles f ≡ opened before.next (Some (place at)) read)
    × (after ≡ record before {
      chain = f ∷ before.chain;
      current = before.next;
      next = before.next + 1;
      error = after.error;
    })

-- The resources after OpenResFile: a file is opened, or only the code that ResError returns is set.
abbrev pub OpensAtMost : List ℕ → Resources → Resources → Type 0
OpensAtMost name before after = (after ≡ record before { error = after.error }) ⊎ Opens name before after
