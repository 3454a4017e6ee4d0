use Rattle.std.specs.Prelude.{◌≡◌, ◌≤◌, ◌%◌, ℕ}
use Rattle.block_store.specs.Rest.{Site}
use Rattle.block_store.specs.declared.measures.TheConstants.{UNIT, LEAST_ZONE, GREATEST_ZONE}
use Rattle.heap_calls.specs.State.{CountedMemory, fresh_memory}

-- A zone that C makes. Inside Macintosh: Memory, chapter 2, "Heap Zones".

-- A zone may have so many bytes.
pub record IsZoneSize (size : ℕ) : Type 0 where
  pub even : size % UNIT ≡ 0
  pub low : LEAST_ZONE ≤ size
  pub high : size ≤ GREATEST_ZONE

-- No zone has so many bytes.
abbrev pub NoZoneSize : ℕ → Type 0
NoZoneSize size = IsZoneSize size → ⊥

-- The heap of a fresh zone of so many bytes, before its first call.
pub record IsFresh (size : ℕ) (heap : CountedMemory) : Type 0 where
  pub at : Site
  pub memory : heap.memory ≡ fresh_memory size at
  pub placings : heap.placings ≡ 0
