use Rattle.std.specs.Prelude.{◌≡◌, ◌≤◌, ◌⊎◌, Bool, true, IsTrue, Option, Some, None, List, ℕ, length}
use Rattle.block_store.specs.Block.{Block}
use Rattle.heap_calls.specs.State.{State, Memory, CountedMemory}
use Rattle.heap_calls.specs.Answer.{look_up}
use Rattle.heap_calls.specs.Gone.{Gone, Tells, TellsNothing, slot_gone, copying_gone}
use Rattle.heap_calls.specs.Slots.{slotted_zone}
use Rattle.heap_calls.specs.Copying.{copying_zone}

-- What a call leaves where the host is out of memory.

-- The first of two steps of a call: the zone after it, and the blocks that were purged for it.
pub record Step : Type 0 where
  pub zone : List Block
  pub gone : List Gone

-- A call that makes a handle first takes a master pointer; a block of more of them may be made for that.
abbrev pub slot_step : (Block → Bool) → State → Step
slot_step spared s = record { zone = slotted_zone spared s; gone = slot_gone spared s }

-- HandToHand takes a master pointer for the copy.
abbrev pub copy_step : Option ℕ → State → Step
copy_step handle s =
    record { zone = copying_zone (look_up handle s) s; gone = copying_gone (look_up handle s) s }

-- No number is reserved for the next handle or pointer.
abbrev pub Unreserved : Memory → Type 0
Unreserved m = m.log.reserved ≤ length m.heap.names

-- The call did nothing: all is as it was, and no block was reported to the sink. The host had no memory for a sink that
-- listens, or for another reason.
pub record DidNothing {A : Type 0} (told : A → List Gone → Type 0) (listens : A → Bool) (another : Type 0)
    (old new : CountedMemory) (sink heard : A) : Type 0 where
  pub same : new ≡ old
  pub silent : TellsNothing told sink heard
  pub why : (listens sink ≡ true) ⊎ another

-- The call did its first step, of which the sink was told, and no more: the host had no memory for a sink that listens.
pub record DidOneStep {A : Type 0} (told : A → List Gone → Type 0) (listens : A → Bool) (first : Step) (old new : Memory)
    (sink heard : A) : Type 0 where
  pub same : new ≡ record old { heap = record old.heap { zone = first.zone } }
  pub tells : Tells told first.gone sink heard
  pub why : listens sink ≡ true

-- The same of a call that may have a first step.
abbrev pub DidAStep : {A : Type 0} → (A → List Gone → Type 0) → (A → Bool) → Option Step → Memory → Memory → A → A → Type 0
DidAStep told listens None old new sink heard = ⊥
DidAStep told listens (Some first) old new sink heard = DidOneStep told listens first old new sink heard

-- What a call leaves that the host stops: what `keeps` says; and over a store that takes no host memory (`takes`) the
-- call did nothing, or just its first step, if it has one.
pub record Stops {A : Type 0} (takes : Bool) (told : A → List Gone → Type 0) (listens : A → Bool)
    (keeps : Memory → Memory → Type 0) (another : Type 0) (first : Option Step) (old new : CountedMemory)
    (sink heard : A) : Type 0 where
  pub kept : keeps old.memory new.memory
  pub left : IsTrue takes ⊎ (DidNothing told listens another old new sink heard
      ⊎ DidAStep told listens first old.memory new.memory sink heard)
