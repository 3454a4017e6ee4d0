use Rattle.std.specs.Prelude.{ℕ, ◌≡◌, ◌⊎◌, Bool, true, IsTrue, Option, None, List, [], ◌∷◌, map, filter, drop}
use Rattle.std.specs.Prelude.{if◌then◌else◌}
use Rattle.std.specs.Option.{option_or}
use Rattle.block_store.specs.declared.flags.Flags.{Flags}
use Rattle.heap_calls.specs.Gone.{Gone}
use Rattle.heap_calls.specs.Preloaded.{MadeSome}
use Rattle.heap_calls.specs.State.{Memory}
use Rattle.res_map.specs.Map.{Reference, Map, is_preload, with_handle}
use Rattle.res_calls.specs.Fetch.{flags_of}
use Rattle.res_calls.specs.Files.{OpenFile}

-- Preloading as the methods carry it out: first all handles are made, then each handle is given to its reference.

-- The flags and the bytes of the block that a resource is read into.
abbrev pub filling_of : Reference → Flags × List ℕ
filling_of x = (flags_of x, x.stored.datum)

-- The flags and the bytes of the blocks of all references that have resPreload, in order.
abbrev pub wanted_of : List Reference → List (Flags × List ℕ)
wanted_of references = map filling_of (filter is_preload references)

-- The next number, or None where no number is left or no handle could be made.
abbrev pub next_number : List (Option ℕ) → Option ℕ
next_number [] = None
next_number (number ∷ numbers) = number

-- The reference with the handle of the given number; without a number the reference stays as it was.
abbrev pub numbered : Option ℕ → Reference → Reference
numbered number x = with_handle (option_or number x.handle) x

-- The references, where those that have resPreload have the given handles, in order.
abbrev pub given_to : List Reference → List (Option ℕ) → List Reference
given_to [] numbers = []
given_to (x ∷ references) numbers =
    if is_preload x then numbered (next_number numbers) x ∷ given_to references (drop 1 numbers)
    else x ∷ given_to references numbers

-- The resource map whose references that have resPreload have the given handles, in order; those for which no number is
-- left stay as they were.
abbrev pub with_handles : List (Option ℕ) → Map → Map
with_handles numbers f = record f { references = given_to f.references numbers }

-- The preloading of a file's references was stopped: they have the handles of these numbers. Over a store that takes no
-- host memory, these are the numbers that were made until then.
pub record StopsPreloading {A : Type 0} (told : A → List Gone → Type 0) (takes : Bool) (start file : Map)
    (old new : Memory) (before after : A) : Type 0 where
  pub numbers : List (Option ℕ)
  pub given : file ≡ with_handles numbers start
  pub stops : IsTrue takes ⊎ MadeSome told (wanted_of start.references) old numbers new before after

-- The same of a file that was put before the other open files; the preloading was on.
pub record StopsFirst {A : Type 0} (told : A → List Gone → Type 0) (takes loading : Bool) (f : OpenFile)
    (older chain : List OpenFile) (old new : Memory) (before after : A) : Type 0 where
  pub loads : loading ≡ true
  pub read : Map
  pub first : chain ≡ record f { map = read } ∷ older
  pub preloads : StopsPreloading told takes f.map read old new before after
