use Rattle.std.specs.Prelude.{◌≡◌, ◌<◌, ◌≤◌, ℕ, Bool, true, not, ◌&&◌, List, [], length, if◌then◌else◌}
use Rattle.std.specs.List.{list_any}
use Rattle.block_store.specs.Block.{sizes}
use Rattle.block_store.specs.declared.measures.TheConstants.{GREATEST_ZONE}
use Rattle.heap_calls.specs.Emptying.{has_purgeable}
use Rattle.heap_calls.specs.Gone.{Gone}
use Rattle.heap_calls.specs.Inside.{has_block}
use Rattle.heap_calls.specs.Locked.{OneBlockEach}
use Rattle.heap_calls.specs.State.{State}
use Rattle.heap_calls.specs.ToldGone.{told_of, bytes_in}
use Rattle.res_map.specs.Map.{Reference, has_handle}
use Rattle.res_calls.specs.Fetch.{Reads, flags_of}
use Rattle.res_calls.specs.Files.{Resources}
use Rattle.res_calls.specs.Owning.{references}

-- Just the blocks that a whole call purges are reported to a sink: what the tables of Gone name is what goes. More
-- Macintosh Toolbox, chapter 1, "Reading Resources into Memory".

-- What is reported of a handle of the heap is what the handle loses from before a call to after it: once, with its
-- bytes, where the handle has a block before the call and none after it; else nothing.
abbrev pub TellsWhatGoes : List Gone → State → State → Type 0
TellsWhatGoes gone before after = (h : ℕ) → h < length before.names
    → told_of h gone ≡ (if has_block h after then [] else bytes_in h before.zone)

-- Each block that is reported is of a handle of the heap, and was unlocked and purgeable before the call.
abbrev pub TellsOfPurgeable : List Gone → State → Type 0
TellsOfPurgeable gone before = (h : ℕ) → 0 < length (told_of h gone)
    → (h < length before.names) × (has_purgeable h before.zone ≡ true)

-- Of a file that is opened, a preload may purge the block of an earlier one: a block that was not there before the
-- call. What is reported of a handle that the call made is what was read into the handle's block, once, where the handle
-- has no block after the call; else nothing.
abbrev pub TellsWhatPreloadsLose : List Gone → Reads → State → State → Type 0
TellsWhatPreloadsLose gone reads before after = (h : ℕ) → length before.names ≤ h
    → told_of h gone ≡ (if has_block h after then [] else told_of h reads)

-- The block into which a resource is read may be purged.
abbrev pub may_go : Reference → Bool
may_go x = not (flags_of x).locked && (flags_of x).purgeable

-- Each block that is reported of such a handle is that of a resource whose block may be purged.
abbrev pub TellsOfLoosePreloads : List Gone → State → Resources → Type 0
TellsOfLoosePreloads gone before after = (h : ℕ) → 0 < length (told_of h gone) → length before.names ≤ h
    → list_any (λ x. has_handle h x && may_go x) (references after.chain) ≡ true

-- No handle is reported twice.
abbrev pub TellsOnce : List Gone → Type 0
TellsOnce gone = (h : ℕ) → length (told_of h gone) ≤ 1

-- Each block of a handle is of one that was given, and no handle has two; the zone is no larger than a zone can be.
pub record IsWhole (s : State) : Type 0 where
  pub once : OneBlockEach s.zone
  pub given : (h : ℕ) → has_block h s ≡ true → h < length s.names
  pub small : sizes s.zone ≤ GREATEST_ZONE
