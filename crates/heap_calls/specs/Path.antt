use Rattle.std.specs.Prelude.{ℕ, ◌==◌, ◌||◌, Bool, false, Option, Some, None, Result, Ok, Err, List, [], ◌∷◌, ◌++◌}
use Rattle.std.specs.Prelude.{if◌then◌else◌}
use Rattle.mac_words.specs.declared.code.OsErr.{OsErr}
use Rattle.block_store.specs.declared.flags.Flags.{Flags}
use Rattle.block_store.specs.Block.{Block}
use Rattle.heap_calls.specs.State.{Role, State, Memory}
use Rattle.heap_calls.specs.Slots.{slotted_zone}
use Rattle.heap_calls.specs.Answer.{nothing}
use Rattle.heap_calls.specs.Gone.{Gone}
use Rattle.heap_calls.specs.Rows.{purges_made}
use Rattle.heap_calls.specs.Inside.{new_filled, new_empty, refill, new_inside, new_empty_inside, refill_inside}
use Rattle.heap_calls.specs.Inside.{inside, released, cast, has_block}

-- The steps that the Resource Manager takes on a heap, one after another. More Macintosh Toolbox, chapter 1, "Using
-- the Resource Manager".

-- A step: a new handle with a block of these flags and bytes, or a new empty handle; a new block for an empty handle;
-- the disposal of a handle and its block; or a handle in another role.
pub data Step : Type 0 where
  NewFilled : (role : Role) (flags : Flags) (bytes : List ℕ) → Step
  NewEmpty : (role : Role) → Step
  Refill : (handle : ℕ) (flags : Flags) (bytes : List ℕ) → Step
  Release : (handle : ℕ) → Step
  Cast : (change : Role → Role) (handle : ℕ) → Step

-- The memory after a step. A handle that has a block is not filled again.
abbrev pub stepped : Step → Memory → Memory
stepped (NewFilled role flags bytes) m = (new_inside role flags bytes m).1
stepped (NewEmpty role) m = (new_empty_inside role m).1
stepped (Refill h flags bytes) m = if has_block h m.heap then m else (refill_inside h flags bytes m).1
stepped (Release h) m = inside (released h) m
stepped (Cast change h) m = inside (cast change h) m

-- The code of a refusal; `None` where there is none.
abbrev pub refusal_of : {T : Type 0} → Result T OsErr → Option OsErr
refusal_of (Ok value) = None
refusal_of (Err code) = Some code

-- The code with which a step is refused; `None` where the step is done.
abbrev pub refusal : Step → Memory → Option OsErr
refusal (NewFilled role flags bytes) m = refusal_of (new_inside role flags bytes m).0
refusal (NewEmpty role) m = refusal_of (new_empty_inside role m).0
refusal (Refill h flags bytes) m = if has_block h m.heap then None else refusal_of (refill_inside h flags bytes m).0
refusal (Release h) m = None
refusal (Cast change h) m = None

-- What was read into the block of a new handle: the handle's number, and the bytes.
abbrev pub read_new : List ℕ → Result ℕ OsErr → List (ℕ × List ℕ)
read_new bytes (Ok h) = (h, bytes) ∷ []
read_new bytes (Err code) = []

-- What was read into the new block of an empty handle: the handle's number, and the bytes.
abbrev pub read_again : ℕ → List ℕ → Result (Unit {0}) OsErr → List (ℕ × List ℕ)
read_again h bytes (Ok done) = (h, bytes) ∷ []
read_again h bytes (Err code) = []

-- What a step read.
abbrev pub read_by : Step → Memory → List (ℕ × List ℕ)
read_by (NewFilled role flags bytes) m = read_new bytes (new_inside role flags bytes m).0
read_by (NewEmpty role) m = []
read_by (Refill h flags bytes) m = if has_block h m.heap then []
    else read_again h bytes (refill_inside h flags bytes m).0
read_by (Release h) m = []
read_by (Cast change h) m = []

-- The blocks that a step purges for room.
abbrev pub gone_at : Step → Memory → List Gone
gone_at (NewFilled role flags bytes) m = purges_made (new_filled role flags bytes) m.heap
gone_at (NewEmpty role) m = purges_made (new_empty role) m.heap
gone_at (Refill h flags bytes) m = if has_block h m.heap then []
    else purges_made (refill h flags bytes) m.heap
gone_at (Release h) m = []
gone_at (Cast change h) m = []

-- The memory after a path of steps.
abbrev pub walk : List Step → Memory → Memory
walk [] m = m
walk (step ∷ steps) m = walk steps (stepped step m)

-- What the steps of a path read, in order.
abbrev pub reads : List Step → Memory → List (ℕ × List ℕ)
reads [] m = []
reads (step ∷ steps) m = read_by step m ++ reads steps (stepped step m)

-- The bytes last put into each handle's block, after what was read.
abbrev pub put_reads : List (ℕ × List ℕ) → (ℕ → List ℕ) → ℕ → List ℕ
put_reads [] bytes = bytes
put_reads (read ∷ later) bytes = put_reads later (λ h. if read.0 == h then read.1 else bytes h)

-- Whether a step disposes of a handle.
abbrev pub step_disposes : Step → ℕ → Bool
step_disposes (NewFilled role flags bytes) h = false
step_disposes (NewEmpty role) h = false
step_disposes (Refill k flags bytes) h = false
step_disposes (Release k) h = k == h
step_disposes (Cast change k) h = false

-- Whether one of the steps of a path disposes of a handle.
abbrev pub steps_dispose : List Step → ℕ → Bool
steps_dispose [] h = false
steps_dispose (step ∷ steps) h = step_disposes step h || steps_dispose steps h

-- The zone after a step that was refused: as it was, except that a master pointer block that was made for the step
-- stays.
abbrev pub left_zone : Step → State → List Block
left_zone (NewFilled role flags bytes) s = slotted_zone nothing s
left_zone (NewEmpty role) s = slotted_zone nothing s
left_zone (Refill h flags bytes) s = s.zone
left_zone (Release h) s = s.zone
left_zone (Cast change h) s = s.zone
