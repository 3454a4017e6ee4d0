use Rattle.std.specs.Prelude.{◌≡◌, ◌⊎◌, Bool, true, IsTrue, List}
use Rattle.block_store.specs.Block.{Block}
use Rattle.block_store.specs.Rest.{Rest, IsRest}
use Rattle.heap_calls.specs.Gone.{Gone, TellsNothing}

-- What a step over a store leaves where the host is out of memory.

-- A sink that listens had no memory: the store is as it was, and no block was reported to the sink.
pub record Unheard {A : Type 0} (told : A → List Gone → Type 0) (listens : A → Bool) (zone : List Block) (rest : Rest)
    (zone' : List Block) (rest' : Rest) (sink heard : A) : Type 0 where
  pub same : zone' ≡ zone
  pub kept : IsRest rest rest'
  pub silent : TellsNothing told sink heard
  pub why : listens sink ≡ true

-- The store had no memory, or the sink.
abbrev pub Halts : {A : Type 0} → Bool → (A → List Gone → Type 0) → (A → Bool) → List Block → Rest → List Block → Rest
    → A → A → Type 0
Halts takes told listens zone rest zone' rest' sink heard =
    IsTrue takes ⊎ Unheard told listens zone rest zone' rest' sink heard
