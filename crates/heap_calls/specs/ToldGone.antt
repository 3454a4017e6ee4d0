use Rattle.std.specs.Prelude.{◌≡◌, ◌<◌, ℕ, ◌==◌, ◌||◌, true, List, [], ◌∷◌, length, if◌then◌else◌}
pub use Rattle.moves.specs.Bytes.{bytes_in}
use Rattle.heap_calls.specs.State.{Memory}
use Rattle.heap_calls.specs.Table.{Asked}
use Rattle.heap_calls.specs.Table.{served}
use Rattle.heap_calls.specs.Emptying.{takes_block, has_purgeable}
use Rattle.heap_calls.specs.Gone.{Gone}
use Rattle.heap_calls.specs.Table.{gone_in}
use Rattle.heap_calls.specs.Inside.{has_block}
use Rattle.heap_calls.specs.Path.{Step, stepped, gone_at, step_disposes}

-- Just the blocks that a call purges are reported to a sink. Inside Macintosh: Memory, chapter 1, "Purging and
-- Reallocating Memory Blocks".

-- The bytes with which a list reports the handle h, in the list's order.
abbrev pub told_of : ℕ → List Gone → List (List ℕ)
told_of h [] = []
told_of h (g ∷ more) = if g.0 == h then g.1 ∷ told_of h more else told_of h more

-- What one try of a call reports of a handle is what the handle loses: once, with its bytes, where the handle has a
-- block before the call and none after it; else nothing. Nothing either of a handle that the call itself disposes of or
-- empties.
abbrev pub TellsWhatGoes : Asked → Memory → Type 0
TellsWhatGoes asked m =
    (h : ℕ) → h < length m.heap.names → told_of h (gone_in asked m)
    ≡ (if takes_block h asked || has_block h (served asked m).1.heap then [] else bytes_in h m.heap.zone)

-- Each block that one try of a call reports is of a handle, and was unlocked and purgeable before the call.
abbrev pub TellsOfPurgeable : Asked → Memory → Type 0
TellsOfPurgeable asked m = (h : ℕ) → 0 < length (told_of h (gone_in asked m))
    → (h < length m.heap.names) × (has_purgeable h m.heap.zone ≡ true)

-- So it is for each step that the Resource Manager takes on a heap: what the step reports of a handle that it does not
-- dispose of is what the handle loses.
abbrev pub StepTellsWhatGoes : Step → Memory → Type 0
StepTellsWhatGoes step m =
    (h : ℕ) → h < length m.heap.names → told_of h (gone_at step m)
    ≡ (if step_disposes step h || has_block h (stepped step m).heap then [] else bytes_in h m.heap.zone)
