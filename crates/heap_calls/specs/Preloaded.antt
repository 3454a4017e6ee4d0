use Rattle.std.specs.Prelude.{◌≡◌, ◌<◌, ◌⊎◌, ℕ, Option, List, ◌++◌, length, take}
use Rattle.block_store.specs.declared.flags.Flags.{Flags}
use Rattle.heap_calls.specs.State.{Memory}
use Rattle.heap_calls.specs.Answer.{nothing}
use Rattle.heap_calls.specs.Gone.{Gone, Tells, TellsNothing, slot_gone}
use Rattle.heap_calls.specs.Inside.{new_all, all_gone}
use Rattle.heap_calls.specs.Refused.{LeavesMasters}

-- What stands after new handles were made one after another, over a store that takes no host memory, until a sink found
-- the host out of memory.

-- What one new handle leaves of a memory and a sink where the host is out of memory: all as it was; or the zone has an
-- unused master pointer, and what was purged for that was reported to the sink.
abbrev pub LeavesUnmade : {A : Type 0} → (A → List Gone → Type 0) → Memory → Memory → A → A → Type 0
LeavesUnmade told old new before after =
    ((new ≡ old) × TellsNothing told before after)
    ⊎ (LeavesMasters nothing old new × Tells told (slot_gone nothing old.heap) before after)

-- The first k of the resources were made, and no more: these are their numbers; the memory is the one that they leave,
-- and what was purged for them was reported to the sink, or the zone has an unused master pointer besides, and what was
-- purged for that was then reported to the sink.
pub record MadeFirst {A : Type 0} (told : A → List Gone → Type 0) (k : ℕ) (wanted : List (Flags × List ℕ))
    (old : Memory) (numbers : List (Option ℕ)) (new : Memory) (before after : A) : Type 0 where
  pub some : k < length wanted
  pub made : numbers ≡ (new_all (take k wanted) old).0
  pub left :
      ((new ≡ (new_all (take k wanted) old).1) × Tells told (all_gone (take k wanted) old) before after)
      ⊎ (LeavesMasters nothing (new_all (take k wanted) old).1 new
      × Tells told (all_gone (take k wanted) old ++ slot_gone nothing (new_all (take k wanted) old).1.heap) before after)

-- Some of the resources were made, but not all.
abbrev pub MadeSome : {A : Type 0} → (A → List Gone → Type 0) → List (Flags × List ℕ) → Memory → List (Option ℕ) → Memory
    → A → A → Type 0
MadeSome told wanted old numbers new before after = (k : ℕ) × MadeFirst told k wanted old numbers new before after
