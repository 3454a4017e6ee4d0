use Rattle.std.specs.Prelude.{◌≡◌, ℕ, Bool, Option, Some, None, List, if◌then◌else◌}
use Rattle.mac_words.specs.Told.{Refused}
use Rattle.mac_words.specs.declared.code.OsErr.{OsErr}
use Rattle.block_store.specs.Block.{Block}
use Rattle.heap_calls.specs.State.{State, Memory}
use Rattle.heap_calls.specs.Answer.{look_up}
use Rattle.heap_calls.specs.Slots.{slotted_zone}
use Rattle.heap_calls.specs.Copying.{copying_zone}
use Rattle.heap_calls.specs.Table.{Asked}
use Rattle.heap_calls.specs.Busy.{keep_code}
use Rattle.heap_calls.specs.Table.{gate, notes, served, zone_left}
use Rattle.heap_calls.specs.Counts.{CountsSearches, CountsMoves}

-- What a refused call leaves, whether its row or a busy name refuses the call.

-- All but the blocks of the zone is what it was; the zone has an unused master pointer.
abbrev pub LeavesMasters : (Block → Bool) → Memory → Memory → Type 0
LeavesMasters spared old new = new ≡ record old { heap = record old.heap { zone = slotted_zone spared old.heap } }

-- All but the blocks of the zone is what it was; the zone has an unused master pointer for the copy of a handle's block.
abbrev pub LeavesCopying : Option ℕ → Memory → Memory → Type 0
LeavesCopying handle old new =
    new ≡ record old { heap = record old.heap { zone = copying_zone (look_up handle old.heap) old.heap } }

-- The zone after a refused call, by its gate: as it was where a busy name barred the call.
abbrev pub zone_behind : Option OsErr → Asked → State → List Block
zone_behind None asked s = zone_left asked s
zone_behind (Some code) asked s = s.zone

-- The zone after a try that was refused.
abbrev pub refused_zone : Asked → Memory → List Block
refused_zone asked m = zone_behind (gate asked m) asked m.heap

-- The code that MemError returns after a call that was refused: the code of the refusal, or the one before where the
-- call sets none.
abbrev pub code_left : Asked → OsErr → OsErr → OsErr
code_left asked code before = if notes asked then code else before

-- A try that is refused leaves this zone, all names as they were, this code, the heap where it lay, and the same
-- names busy; its searches and moves are counted.
abbrev pub RefusedLeaves : Asked → Memory → Type 0
RefusedLeaves asked m =
    (code : OsErr) → (served asked m).0 ≡ Refused code
    → ((served asked m).1.heap ≡ record m.heap { zone = refused_zone asked m })
    × ((served asked m).1.log.code ≡ code_left asked code m.log.code)
    × ((served asked m).1.window ≡ m.window)
    × ((served asked m).1.log.busy ≡ m.log.busy)
    × (CountsSearches asked m)
    × (CountsMoves asked m)

-- A call that is barred is refused with that code, and changes nothing but the code that MemError returns.
abbrev pub BarredLeaves : Asked → Memory → Type 0
BarredLeaves asked m =
    (code : OsErr) → gate asked m ≡ Some code
    → ((served asked m).0 ≡ Refused code)
    × ((served asked m).1 ≡ keep_code (code_left asked code m.log.code) m)
