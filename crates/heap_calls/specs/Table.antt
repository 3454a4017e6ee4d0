use Rattle.std.specs.Prelude.{ℕ, Bool, Option, List}
use Rattle.mac_words.specs.Size.{phys}
use Rattle.mac_words.specs.Told.{Told, Given, Number, Numbers, Offset, Bytes}
use Rattle.mac_words.specs.declared.code.OsErr.{OsErr}
use Rattle.block_store.specs.Block.{Block}
use Rattle.block_store.specs.Room.{purge}
use Rattle.heap_calls.specs.State.{State, Memory}
use Rattle.heap_calls.specs.Answer.{dispose_handle, get_handle_size, free_mem, h_lock, h_unlock}
use Rattle.heap_calls.specs.Answer.{move_h_hi, h_lock_hi, max_block, compact_mem, put, show}
use Rattle.heap_calls.specs.Answer.{look_up, nothing, handle_zone, munger_nil}
use Rattle.heap_calls.specs.Slots.{slotted_zone}
use Rattle.heap_calls.specs.Pointers.{dispose_pointer, get_pointer_size, pointer_zone, put_pointer, show_pointer}
use Rattle.heap_calls.specs.Pointers.{place_of, block_move, recover_handle}
use Rattle.heap_calls.specs.Purging.{h_purge, h_no_purge, h_get_state, h_set_state, empty_handle}
use Rattle.heap_calls.specs.Purging.{purge_mem, purge_space, blocks_purged}
use Rattle.heap_calls.specs.Copying.{copying_zone}
use Rattle.heap_calls.specs.Searches.{compact_mem_searches, purge_mem_searches}
use Rattle.heap_calls.specs.Moves.{compact_mem_moves}
use Rattle.heap_calls.specs.Gone.{Gone, purge_mem_gone}
use Rattle.heap_calls.specs.Rows as rows
use Rattle.heap_calls.specs.Rows.{doing, searches_made, moves_made, purges_made}
use Rattle.heap_calls.specs.Row.{Open, OnHandle, OnChange, OnBoth, OnPointer, OnEither, OnMove, barred_by, first_of, second_of, Row}
use Rattle.heap_calls.specs.Row.{Plain, Quiet, Does, Seeks, Compacts, PurgesAll, LastCode, Leaves, bar_of, notes_code, answer_of, serve}
use Rattle.heap_calls.specs.Row.{searches_of, moves_of, gone_of_row, left_by, done, gated_row}
use Rattle.heap_calls.specs.Serving.{NewBytes}
use Rattle.heap_calls.specs.Munging.{Target}

-- The table of the Memory Manager's calls: a row a call. Inside Macintosh: Memory, chapter 2, "Memory Manager Routines".

-- A call of the Memory Manager's table, with the number that each of its names is bound to, `None` where the name is
-- unbound.
pub data Asked : Type 0 where
  NewHandle : (bytes : NewBytes) → Asked
  NewEmptyHandle : Asked
  DisposeHandle : (handle : Option ℕ) → Asked
  GetHandleSize : (handle : Option ℕ) → Asked
  SetHandleSize : (handle : Option ℕ) (size : ℕ) → Asked
  ReallocateHandle : (handle : Option ℕ) (size : ℕ) → Asked
  EmptyHandle : (handle : Option ℕ) → Asked
  HLock : (handle : Option ℕ) → Asked
  HUnlock : (handle : Option ℕ) → Asked
  HPurge : (handle : Option ℕ) → Asked
  HNoPurge : (handle : Option ℕ) → Asked
  HGetState : (handle : Option ℕ) → Asked
  HSetState : (handle : Option ℕ) (state : ℕ) → Asked
  HandleZone : (handle : Option ℕ) → Asked
  RecoverHandle : (place : ℕ) → Asked
  MoveHHi : (handle : Option ℕ) → Asked
  HLockHi : (handle : Option ℕ) → Asked
  HandToHand : (handle : Option ℕ) → Asked
  HandAndHand : (from : Option ℕ) (to : Option ℕ) → Asked
  PtrAndHand : (handle : Option ℕ) (bytes : List ℕ) → Asked
  PtrToXHand : (handle : Option ℕ) (bytes : List ℕ) → Asked
  Munger : (handle : Option ℕ) (offset : ℕ) (old : Target) (new : List ℕ) → Asked
  MungerNil : (handle : Option ℕ) (offset : ℕ) (old : Target) → Asked
  NewPtr : (size : ℕ) → Asked
  DisposePtr : (pointer : Option ℕ) → Asked
  GetPtrSize : (pointer : Option ℕ) → Asked
  SetPtrSize : (pointer : Option ℕ) (size : ℕ) → Asked
  PtrZone : (pointer : Option ℕ) → Asked
  BlockMove : (from : Option ℕ) (start : ℕ) (to : Option ℕ) (offset : ℕ) (count : ℕ) → Asked
  FreeMem : Asked
  MaxBlock : Asked
  PurgeSpace : Asked
  CompactMem : (size : ℕ) → Asked
  PurgeMem : (size : ℕ) → Asked
  MaxMem : Asked
  ReserveMem : (size : ℕ) → Asked
  MoreMasters : Asked
  MemError : Asked
  Put : (handle : Option ℕ) (from : ℕ) (bytes : List ℕ) → Asked
  Show : (handle : Option ℕ) → Asked
  PutPtr : (pointer : Option ℕ) (from : ℕ) (bytes : List ℕ) → Asked
  ShowPtr : (pointer : Option ℕ) → Asked
  Where : (name : Option ℕ) → Asked

-- The table. A master pointer block that was made for a new handle stays where the call is then refused, and so does
-- what PurgeMem purged.
abbrev pub row : Asked → Row
row (NewHandle new) = Leaves (slotted_zone nothing) (Does Open Given (rows.new_handle_with new))
row NewEmptyHandle = Does Open Given rows.new_empty_handle
row (DisposeHandle handle) = Plain (OnHandle handle) done (dispose_handle handle)
row (GetHandleSize handle) = Plain (OnHandle handle) Number (get_handle_size handle)
row (SetHandleSize handle size) = Does (OnChange handle) done (rows.set_handle_size handle size)
row (ReallocateHandle handle size) = Does (OnChange handle) done (rows.reallocate_handle handle size)
row (EmptyHandle handle) = Plain (OnHandle handle) done (empty_handle handle)
row (HLock handle) = Plain (OnHandle handle) done (h_lock handle)
row (HUnlock handle) = Plain (OnHandle handle) done (h_unlock handle)
row (HPurge handle) = Plain (OnHandle handle) done (h_purge handle)
row (HNoPurge handle) = Plain (OnHandle handle) done (h_no_purge handle)
row (HGetState handle) = Plain (OnHandle handle) Number (h_get_state handle)
row (HSetState handle state) = Plain (OnHandle handle) done (h_set_state handle state)
row (HandleZone handle) = Plain (OnHandle handle) Number (handle_zone handle)
row (RecoverHandle place) = Plain Open Given (recover_handle place)
row (MoveHHi handle) = Plain (OnHandle handle) done (move_h_hi handle)
row (HLockHi handle) = Plain (OnHandle handle) done (h_lock_hi handle)
row (HandToHand handle) = Leaves (λ s. copying_zone (look_up handle s) s)
    (Does (OnHandle handle) Given (rows.hand_to_hand handle))
row (HandAndHand from to) = Does (OnBoth from to) done (rows.hand_and_hand from to)
row (PtrAndHand handle bytes) = Does (OnChange handle) done (rows.pointer_and_hand handle bytes)
row (PtrToXHand handle bytes) = Does (OnChange handle) done (rows.pointer_to_x_hand handle bytes)
row (Munger handle offset old new) = Does (OnChange handle) Offset (rows.munger handle offset old new)
row (MungerNil handle offset old) = Plain (OnHandle handle) Offset (munger_nil handle offset old)
row (NewPtr size) = Does Open Given (rows.new_pointer size)
row (DisposePtr pointer) = Plain (OnPointer pointer) done (dispose_pointer pointer)
row (GetPtrSize pointer) = Plain (OnPointer pointer) Number (get_pointer_size pointer)
row (SetPtrSize pointer size) = Does (OnPointer pointer) done (rows.set_pointer_size pointer size)
row (PtrZone pointer) = Plain (OnPointer pointer) Number (pointer_zone pointer)
row (BlockMove from start to offset count) = Plain (OnMove from to) done (block_move from start to offset count)
row FreeMem = Plain Open Number free_mem
row MaxBlock = Plain Open Number max_block
row PurgeSpace = Plain Open (λ space. Numbers space.0 space.1) purge_space
row (CompactMem size) = Compacts (compact_mem_moves size) (compact_mem_searches size) (compact_mem size)
row (PurgeMem size) = Leaves (λ s. purge (blocks_purged (phys size) s.zone) nothing s.zone)
    (Seeks Open done (purge_mem_searches size) (purge_mem_gone size) (purge_mem size))
row MaxMem = PurgesAll
row (ReserveMem size) = Does Open done (rows.reserve_mem size)
row MoreMasters = Does Open done rows.more_masters
row MemError = LastCode
row (Put handle from bytes) = Quiet (OnChange handle) done (put handle from bytes)
row (Show handle) = Quiet (OnHandle handle) Bytes (show handle)
row (PutPtr pointer from bytes) = Quiet (OnPointer pointer) done (put_pointer pointer from bytes)
row (ShowPtr pointer) = Quiet (OnPointer pointer) Bytes (show_pointer pointer)
row (Where name) = Quiet (OnEither name) Number (place_of name)

-- The reply of each call, and the heap after it, where nothing bars it.
abbrev pub answered : Asked → Memory → Told × Memory
answered asked m = answer_of (row asked) m

-- The code with which a busy name, or a System resource's handle, bars a call; a name that the call binds bars nothing,
-- and neither does anything a call without a name.
abbrev pub gate : Asked → Memory → Option OsErr
gate asked m = barred_by (bar_of (row asked)) m

-- The handles and the pointers on which a call is made. A name that the call binds is none of them.
abbrev pub first_named : Asked → Option ℕ
first_named asked = first_of (bar_of (row asked))

abbrev pub second_named : Asked → Option ℕ
second_named asked = second_of (bar_of (row asked))

-- Whether a call sets the code that MemError returns.
abbrev pub notes : Asked → Bool
notes asked = notes_code (row asked)

abbrev pub gated : Option OsErr → Asked → Memory → Told × Memory
gated o asked m = gated_row o (row asked) m

-- One try of a call: its reply, and the heap after it. It is the same as `gated (gate asked m) asked m`.
abbrev pub served : Asked → Memory → Told × Memory
served asked m = serve (row asked) m

-- The searches for room of a call's row, and the blocks that it moves down.
abbrev pub row_searches : Asked → State → ℕ
row_searches asked s = searches_of (row asked) s

abbrev pub row_moves : Asked → State → ℕ
row_moves asked s = moves_of (row asked) s

-- The blocks that one try of a call purges for room.
abbrev pub gone_in : Asked → Memory → List Gone
gone_in asked m = gone_of_row (row asked) m

-- The zone after a call that its row refused.
abbrev pub zone_left : Asked → State → List Block
zone_left asked s = left_by (row asked) s
