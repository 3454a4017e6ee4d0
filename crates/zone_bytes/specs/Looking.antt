-- The block of a handle.
use Rattle.std.specs.Prelude.{ℕ, ◌==◌, ◌||◌, Option, Some, None, if◌then◌else◌, List, IsTrue}
use Rattle.block_store.specs.Slot.{is_used}
use Rattle.zone_bytes.specs.Table.{Table, Lays}

-- The place that the word of a handle's slot holds; `None` if the handle is empty.
abbrev pub place_of_word : ℕ → Option ℕ
place_of_word w = if w == 2 || w == 18 then None else Some w

-- The slot is that of a handle of a zone in bytes.
pub record IsHandle (xs : List ℕ) (t : Table) (slot : ℕ) : Type 0 where
  pub lays : Lays xs t.blocks t.slots t.unused
  pub used : IsTrue (is_used (t.slots slot))
