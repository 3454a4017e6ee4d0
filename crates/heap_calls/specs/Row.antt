use Rattle.std.specs.Prelude.{ℕ, Bool, true, false, Option, Some, None, List, [], if◌then◌else◌}
use Rattle.mac_words.specs.Told.{Told, Done, Number, Code, Refused}
use Rattle.mac_words.specs.declared.code.OsErr.{OsErr}
use Rattle.block_store.specs.Block.{Block}
use Rattle.heap_calls.specs.State.{State, Memory}
use Rattle.heap_calls.specs.Answer.{Answer}
use Rattle.heap_calls.specs.Answer.{noting, silent, moving}
use Rattle.heap_calls.specs.Purging.{max_mem}
use Rattle.heap_calls.specs.Moves.{max_mem_moves}
use Rattle.heap_calls.specs.Gone.{Gone, max_mem_gone, gone_unless}
use Rattle.heap_calls.specs.Rows as rows
use Rattle.heap_calls.specs.Rows.{doing, searches_made, moves_made, purges_made}
use Rattle.heap_calls.specs.Busy.{barred, change_barred, both_barred, pointer_barred, either_barred, keep_code, unless}
use Rattle.heap_calls.specs.Busy.{unless_silent, move_barred}
use Rattle.heap_calls.specs.Serving.{telling, seeking, packing}

-- The rows of the table of the Memory Manager's calls, and what is read off a row.

-- What may bar a call: nothing; a busy handle; a busy handle, or that of a System resource; the first of these of one
-- handle, and the second of another; a busy pointer; a busy handle or pointer; a busy handle or pointer, and a second one
-- that is busy or that of a System resource.
-- See decision 36 (busy names are tested before a call's row).
pub data Bar : Type 0 where
  Open : Bar
  OnHandle : (handle : Option ℕ) → Bar
  OnChange : (handle : Option ℕ) → Bar
  OnBoth : (from : Option ℕ) (to : Option ℕ) → Bar
  OnPointer : (pointer : Option ℕ) → Bar
  OnEither : (name : Option ℕ) → Bar
  OnMove : (from : Option ℕ) (to : Option ℕ) → Bar

-- The code with which a call is barred.
abbrev pub barred_by : Bar → Memory → Option OsErr
barred_by Open m = None
barred_by (OnHandle handle) m = barred handle m
barred_by (OnChange handle) m = change_barred handle m
barred_by (OnBoth from to) m = both_barred from to m
barred_by (OnPointer pointer) m = pointer_barred pointer m
barred_by (OnEither name) m = either_barred name m
barred_by (OnMove from to) m = move_barred from to m

-- The handles and the pointers on which a call is made.
abbrev pub first_of : Bar → Option ℕ
first_of Open = None
first_of (OnHandle handle) = handle
first_of (OnChange handle) = handle
first_of (OnBoth from to) = from
first_of (OnPointer pointer) = pointer
first_of (OnEither name) = name
first_of (OnMove from to) = from

abbrev pub second_of : Bar → Option ℕ
second_of (OnBoth from to) = to
second_of (OnMove from to) = to
second_of bar = None

-- A row: what may bar the call, how a transcript prints its reply, and its answer. A plain call searches for no room,
-- and sets the code that MemError returns; a quiet one doesn't set it. Of one that allocates or resizes a block the row
-- has the path of its moves, of which its answer, its searches, and the blocks that it moves down and purges are read
-- off. Of PurgeMem the row has the searches that it makes and the blocks that it purges. CompactMem packs and searches,
-- and purges nothing; MaxMem purges and packs, and searches for nothing; MemError returns the code. Of a call whose
-- refusal by its row leaves another zone than the one before, the row has that zone.
-- See decision 24 (`MemError` returns the code of the last call of its table).
pub data Row : Type 1 where
  Plain : {T : Type 0} (bar : Bar) (tell : T → Told) (call : State → Answer T) → Row
  Quiet : {T : Type 0} (bar : Bar) (tell : T → Told) (call : State → Answer T) → Row
  Does : {T : Type 0} (bar : Bar) (tell : T → Told) (does : State → rows.Done T) → Row
  Seeks : {T : Type 0} (bar : Bar) (tell : T → Told) (searches : State → ℕ) (gone : State → List Gone)
      (call : State → Answer T) → Row
  Compacts : (moves : State → ℕ) (searches : State → ℕ) (call : State → Answer ℕ) → Row
  PurgesAll : Row
  LastCode : Row
  Leaves : (left : State → List Block) (row : Row) → Row

-- What may bar the call of a row, and whether it sets the code that MemError returns.
abbrev pub bar_of : Row → Bar
bar_of (Plain bar tell call) = bar
bar_of (Quiet bar tell call) = bar
bar_of (Does bar tell does) = bar
bar_of (Seeks bar tell searches gone call) = bar
bar_of (Compacts moves searches call) = Open
bar_of PurgesAll = Open
bar_of LastCode = Open
bar_of (Leaves left row) = bar_of row

abbrev pub notes_code : Row → Bool
notes_code (Plain bar tell call) = true
notes_code (Quiet bar tell call) = false
notes_code (Does bar tell does) = true
notes_code (Seeks bar tell searches gone call) = true
notes_code (Compacts moves searches call) = true
notes_code PurgesAll = true
notes_code LastCode = false
notes_code (Leaves left row) = notes_code row

-- The reply of a row, and the heap after it, where nothing bars the call.
abbrev pub answer_of : Row → Memory → Told × Memory
answer_of (Plain bar tell call) m = telling tell (noting call m)
answer_of (Quiet bar tell call) m = telling tell (silent call m)
answer_of (Does bar tell does) m = telling tell (doing does m)
answer_of (Seeks bar tell searches gone call) m = telling tell (seeking searches call m)
answer_of (Compacts moves searches call) m = telling Number (packing moves searches call m)
answer_of PurgesAll m = telling Number (moving (max_mem_moves m.heap) (noting max_mem m))
answer_of LastCode m = (Code m.log.code, m)
answer_of (Leaves left row) m = answer_of row m

-- The same in any case, as a method answers it.
abbrev pub serve : Row → Memory → Told × Memory
serve (Plain bar tell call) m = telling tell (unless (barred_by bar m) (noting call) m)
serve (Quiet bar tell call) m = telling tell (unless_silent (barred_by bar m) (silent call) m)
serve (Does bar tell does) m = telling tell (unless (barred_by bar m) (doing does) m)
serve (Seeks bar tell searches gone call) m = telling tell (unless (barred_by bar m) (seeking searches call) m)
serve (Compacts moves searches call) m = telling Number (packing moves searches call m)
serve PurgesAll m = telling Number (moving (max_mem_moves m.heap) (noting max_mem m))
serve LastCode m = (Code m.log.code, m)
serve (Leaves left row) m = serve row m

-- The searches for room of a row, and the blocks that it moves down, where nothing bars the call.
abbrev pub searches_of : Row → State → ℕ
searches_of (Plain bar tell call) s = 0
searches_of (Quiet bar tell call) s = 0
searches_of (Does bar tell does) s = searches_made does s
searches_of (Seeks bar tell searches gone call) s = searches s
searches_of (Compacts moves searches call) s = searches s
searches_of PurgesAll s = 0
searches_of LastCode s = 0
searches_of (Leaves left row) s = searches_of row s

abbrev pub moves_of : Row → State → ℕ
moves_of (Plain bar tell call) s = 0
moves_of (Quiet bar tell call) s = 0
moves_of (Does bar tell does) s = moves_made does s
moves_of (Seeks bar tell searches gone call) s = 0
moves_of (Compacts moves searches call) s = moves s
moves_of PurgesAll s = max_mem_moves s
moves_of LastCode s = 0
moves_of (Leaves left row) s = moves_of row s

-- The blocks that one try of the call purges for room: none where it is barred.
abbrev pub gone_of_row : Row → Memory → List Gone
gone_of_row (Plain bar tell call) m = []
gone_of_row (Quiet bar tell call) m = []
gone_of_row (Does bar tell does) m = gone_unless (barred_by bar m) (purges_made does m.heap)
gone_of_row (Seeks bar tell searches gone call) m = gone_unless (barred_by bar m) (gone m.heap)
gone_of_row (Compacts moves searches call) m = []
gone_of_row PurgesAll m = max_mem_gone m.heap
gone_of_row LastCode m = []
gone_of_row (Leaves left row) m = gone_of_row row m

-- The same where nothing bars it, and whether it may purge any.
abbrev pub purged_by : Row → State → List Gone
purged_by (Plain bar tell call) s = []
purged_by (Quiet bar tell call) s = []
purged_by (Does bar tell does) s = purges_made does s
purged_by (Seeks bar tell searches gone call) s = gone s
purged_by (Compacts moves searches call) s = []
purged_by PurgesAll s = max_mem_gone s
purged_by LastCode s = []
purged_by (Leaves left row) s = purged_by row s

abbrev pub may_purge : Row → Bool
may_purge (Plain bar tell call) = false
may_purge (Quiet bar tell call) = false
may_purge (Does bar tell does) = true
may_purge (Seeks bar tell searches gone call) = true
may_purge (Compacts moves searches call) = false
may_purge PurgesAll = true
may_purge LastCode = false
may_purge (Leaves left row) = may_purge row

-- The zone that a refusal by the row leaves.
abbrev pub left_by : Row → State → List Block
left_by (Plain bar tell call) s = s.zone
left_by (Quiet bar tell call) s = s.zone
left_by (Does bar tell does) s = s.zone
left_by (Seeks bar tell searches gone call) s = s.zone
left_by (Compacts moves searches call) s = s.zone
left_by PurgesAll s = s.zone
left_by LastCode s = s.zone
left_by (Leaves left row) s = left s

-- The reply of a call that returns no value.
abbrev pub done : Unit {0} → Told
done u = Done

-- A call at its gate: where it is barred, nothing changes but the code that MemError returns.
abbrev pub gated_row : Option OsErr → Row → Memory → Told × Memory
gated_row None r m = answer_of r m
gated_row (Some code) r m = (Refused code, if notes_code r then keep_code code m else m)
