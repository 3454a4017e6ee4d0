use Rattle.std.specs.Prelude.{◌≡◌, ℕ, ◌+◌, ◌-◌, Option, Result, Ok, Err, List, ◌++◌, length}
use Rattle.mac_words.specs.declared.code.OsErr.{OsErr}
use Rattle.block_store.specs.Block.{is_relocatable, content_of}
use Rattle.heap_calls.specs.State.{State, Memory}
use Rattle.heap_calls.specs.Answer.{Held, look_up, put, silent}
use Rattle.heap_calls.specs.Munging.{behind}
use Rattle.heap_calls.specs.Pointers.{block_move}
use Rattle.heap_calls.specs.Rows as rows
use Rattle.heap_calls.specs.Rows.{Done}
use Rattle.heap_calls.specs.declared.munging.Occurrence.{Occurrence}

-- A stretch of a block that is replaced.

-- The handle has a block of so many bytes.
abbrev pub HasBytes : Option ℕ → ℕ → State → Type 0
HasBytes handle len s = (held : Held) × (look_up handle s ≡ Ok held) × (length (content_of held.at.here) ≡ len)

-- A stretch of the handle's block, replaced by x.
abbrev pub exchanged : Option ℕ → Occurrence → List ℕ → State → Done (Unit {0})
exchanged handle found x s = rows.for_found (look_up handle s) s (λ held. rows.sized_written
    (is_relocatable held.number) held (length (content_of held.at.here) - found.count + length x) found.at
    (x ++ behind found (content_of held.at.here)) s)

-- A call after another, unless that one was refused.
abbrev pub then_do : Result (Unit {0}) OsErr × Memory → (Memory → Result (Unit {0}) OsErr × Memory)
    → Result (Unit {0}) OsErr × Memory
then_do (Err code, m) next = (Err code, m)
then_do (Ok u, m) next = next m

-- n bytes of a handle's block moved from the offset i on to the offset j, and then others written from the offset k on.
abbrev pub shifted : Option ℕ → ℕ → ℕ → ℕ → ℕ → List ℕ → Memory → Result (Unit {0}) OsErr × Memory
shifted handle i j n k x m = then_do (silent (block_move handle i handle j n) m) (silent (put handle k x))
