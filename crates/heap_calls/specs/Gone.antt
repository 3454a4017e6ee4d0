use Rattle.std.specs.Prelude.{◌≡◌, ℕ, Bool, Option, Some, None, Result, Ok, Err, List, [], ◌∷◌, true}
use Rattle.std.specs.Prelude.{◌++◌, length, nat_lt, if◌then◌else◌, zero, suc}
use Rattle.mac_words.specs.Size.{phys}
use Rattle.mac_words.specs.declared.code.OsErr.{OsErr}
use Rattle.block_store.specs.Block.{Block, Free, Nonrelocatable, Masters, Relocatable, is_relocatable}
use Rattle.block_store.specs.Room.{may_be_purged}
use Rattle.heap_calls.specs.State.{State}
use Rattle.heap_calls.specs.Slots.{slot_made}
use Rattle.heap_calls.specs.Answer.{Held, nothing}
use Rattle.heap_calls.specs.Purging.{purgeable, blocks_purged}

-- What a call purges for room: each block's handle and bytes, the lowest block first. Inside Macintosh: Memory, chapter
-- 1, "Purging and Reallocating Memory Blocks".

-- A block that is purged: the number of its handle, and its bytes.
abbrev pub Gone : Type 0
Gone = ℕ × List ℕ

-- A relocatable block whose handle is one of the first n; nothing of another block.
abbrev pub gone_of : ℕ → Block → List Gone
gone_of n (Free bytes) = []
gone_of n (Nonrelocatable id content) = []
gone_of n Masters = []
gone_of n (Relocatable id flags content) = if nat_lt id n then (id, content) ∷ [] else []

-- The blocks that are told of, of those that are purged: those whose handles are among the first n.
abbrev pub told_blocks : ℕ → List Block → List Gone
told_blocks n [] = []
told_blocks n (b ∷ above) = gone_of n b ++ told_blocks n above

-- The k lowest blocks that may be purged, of handles that are among the first n.
abbrev pub gone : ℕ → ℕ → (Block → Bool) → List Block → List Gone
gone n zero spared blocks = []
gone n (suc k) spared [] = []
gone n (suc k) spared (b ∷ above) =
    if may_be_purged spared b then gone_of n b ++ gone n k spared above else gone n (suc k) spared above

-- The blocks that are purged for an unused master pointer.
abbrev pub slot_gone : (Block → Bool) → State → List Gone
slot_gone spared s = told_blocks (length s.names) (slot_made spared s).gone

-- The blocks that PurgeMem purges, also where it is refused.
abbrev pub purge_mem_gone : ℕ → State → List Gone
purge_mem_gone size s = gone (length s.names) (blocks_purged (phys size) s.zone) nothing s.zone

-- The blocks that MaxMem purges.
abbrev pub max_mem_gone : State → List Gone
max_mem_gone s = gone (length s.names) (purgeable s.zone) nothing s.zone

-- The blocks that a call purges, unless the call is barred.
abbrev pub gone_unless : Option OsErr → List Gone → List Gone
gone_unless None purged = purged
gone_unless (Some code) purged = []

-- The blocks that HandToHand purges for the master pointer of the copy.
abbrev pub copying_gone : Result Held OsErr → State → List Gone
copying_gone (Err code) s = []
copying_gone (Ok held) s = slot_gone (is_relocatable held.number) s

-- These blocks are reported to a sink after those that were reported to it; `told` says which blocks were reported to a
-- sink.
abbrev pub Tells : {A : Type 0} → (A → List Gone → Type 0) → List Gone → A → A → Type 0
Tells told more old new = (before : List Gone) → told old before → told new (before ++ more)

-- No more is reported to a sink.
abbrev pub TellsNothing : {A : Type 0} → (A → List Gone → Type 0) → A → A → Type 0
TellsNothing told old new = (before : List Gone) → told old before → told new before

-- A sink was offered nothing that it did not commit; `waits` says what it would then have committed.
abbrev pub IsIdle : {A : Type 0} → (A → List Gone → Type 0) → (A → List Gone → Type 0) → A → Type 0
IsIdle told waits sink = (before : List Gone) → told sink before → waits sink before

-- After a call that was lent a sink nothing waits to be committed, and the sink listens as it did.
pub record Rests {A : Type 0} (told waits : A → List Gone → Type 0) (listens : A → Bool) (old new : A) : Type 0 where
  pub idle : IsIdle told waits new
  pub same : listens new ≡ listens old

-- What a sink hears of a call to which it was lent: once the call is done, these blocks, if it listens.
pub record Hears {A : Type 0} (told waits : A → List Gone → Type 0) (listens : A → Bool) (done : Type 0)
    (blocks : List Gone) (old new : A) : Type 0 where
  pub tells : done → listens old ≡ true → Tells told blocks old new
  pub rests : Rests told waits listens old new
