use Rattle.std.specs.Prelude.{◌≡◌, ◌⊎◌, ◌≤◌, ◌<◌, ℕ, ◌+◌, ◌*◌, not, ◌&&◌, Some, List, length, if◌then◌else◌}
use Rattle.mac_words.specs.Size.{padded}
use Rattle.block_store.specs.declared.measures.TheConstants.{MASTERS_SIZE}
use Rattle.block_store.specs.Block.{Block, Free, Nonrelocatable, Masters, Relocatable, count, total, sizes, free_sum, is_masters}
use Rattle.heap_calls.specs.State.{Memory}
use Rattle.heap_calls.specs.Purging.{purged_all}
use Rattle.mac_words.specs.Told.{Refused}
use Rattle.heap_calls.specs.Table.{Asked}
use Rattle.heap_calls.specs.Table.{served}
use Rattle.heap_calls.specs.Locked.{OneBlockEach}
use Rattle.heap_calls.specs.Path.{Step, stepped, refusal}
use Rattle.mac_words.specs.declared.code.OsErr.{OsErr}

-- What can be allocated in a zone, and what stays. Inside Macintosh: Memory, chapter 1, "Low-Memory Conditions".

-- The number of bytes that are free or may be purged: the first of PurgeSpace's two numbers.
abbrev pub ease : List Block → ℕ
ease zone = free_sum (purged_all zone)

-- The bytes of a block that is not free, may not be purged and holds no master pointers; 0 for another block.
abbrev pub staying_of : Block → ℕ
staying_of (Free n) = 0
staying_of (Nonrelocatable id content) = padded (length content)
staying_of Masters = 0
staying_of (Relocatable id flags content) = if not flags.locked && flags.purgeable then 0 else padded (length content)

-- The number of bytes of the blocks that stay.
abbrev pub staying : List Block → ℕ
staying zone = total staying_of zone

-- The number of bytes of the master pointer blocks.
abbrev pub of_masters : List Block → ℕ
of_masters zone = MASTERS_SIZE * count is_masters zone

-- What can be allocated in a zone, what stays, and the master pointer blocks make up the zone.
abbrev pub Parted : List Block → Type 0
Parted zone = ease zone + (staying zone + of_masters zone) ≡ sizes zone

-- A try that is refused leaves no more bytes that stay.
abbrev pub RefusedKeepsNoMore : Asked → Memory → Type 0
RefusedKeepsNoMore asked m =
    (code : OsErr) → (served asked m).0 ≡ Refused code → staying (served asked m).1.heap.zone ≤ staying m.heap.zone

-- Of two zones, the later has as much that can be allocated as the earlier, and as many master pointer blocks; or it has
-- one master pointer block more, and less that can be allocated by just the bytes of that block.
abbrev pub CostsAtMostMasters : List Block → List Block → Type 0
CostsAtMostMasters earlier later =
    ((count is_masters later ≡ count is_masters earlier) × (ease later ≡ ease earlier))
    ⊎ ((count is_masters later ≡ count is_masters earlier + 1) × (ease later + MASTERS_SIZE ≡ ease earlier))

-- A try that is refused costs nothing that can be allocated, or one master pointer block.
abbrev pub RefusedCostsAtMostMasters : Asked → Memory → Type 0
RefusedCostsAtMostMasters asked m = (code : OsErr) → (served asked m).0 ≡ Refused code
    → CostsAtMostMasters m.heap.zone (served asked m).1.heap.zone

-- So it is with a step of the Resource or the Segment Manager that is refused.
abbrev pub StepCostsAtMostMasters : Step → Memory → Type 0
StepCostsAtMostMasters step m = (code : OsErr) → refusal step m ≡ Some code
    → CostsAtMostMasters m.heap.zone (stepped step m).heap.zone

-- Where, some time after a refused try, more can be allocated in the zone, which has the same number of bytes and no
-- fewer master pointer blocks, fewer bytes stay than before the try.
abbrev pub LessStaysLater : Asked → Memory → Type 0
LessStaysLater asked m =
    (code : OsErr) → (served asked m).0 ≡ Refused code → (later : List Block)
    → sizes later ≡ sizes (served asked m).1.heap.zone
    → count is_masters (served asked m).1.heap.zone ≤ count is_masters later
    → ease (served asked m).1.heap.zone < ease later
    → staying later < staying m.heap.zone

-- Where no handle has two blocks, a try leaves a zone of the same number of bytes.
abbrev pub KeepsBytes : Asked → Memory → Type 0
KeepsBytes asked m = OneBlockEach m.heap.zone → sizes (served asked m).1.heap.zone ≡ sizes m.heap.zone

-- Where no handle has two blocks, a try leaves no fewer master pointer blocks.
abbrev pub KeepsMasters : Asked → Memory → Type 0
KeepsMasters asked m =
    OneBlockEach m.heap.zone → count is_masters m.heap.zone ≤ count is_masters (served asked m).1.heap.zone
