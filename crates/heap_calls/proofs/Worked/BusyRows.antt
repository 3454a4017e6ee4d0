use Rattle.heap_calls.proofs.Cited.{◌≡◌, ℕ, List, [], ◌∷◌, refl, Some, None, true, false, pos, negsuc, NO_ERR, LOCKED, NIL_HANDLE}
use Rattle.heap_calls.proofs.Cited.{WRONG_ZONE, PURGED, PROFILE, Memory, fresh_memory, Told, Given, Number, Bytes, Refused, Offset, Asked}
use Rattle.heap_calls.proofs.Cited.{idle, busied, eased, is_busy, with_busy, served, Site, Like, Many}
use Rattle.mac_words.specs.Told.{Done, Code}
use Rattle.heap_calls.specs.Serving.{CopyOf, Zeros}
use Rattle.heap_calls.specs.Table as asks

-- Calls while names are busy, by the definitions alone.

-- a line: a call, or a number that becomes busy or idle
data BusyLine : Type 0 where
  Ask : (call : Asked) → BusyLine
  Busy : (number : ℕ) → BusyLine
  Idle : (number : ℕ) → BusyLine

abbrev told : List BusyLine → Memory → List Told
told [] m = []
told (Ask call ∷ lines) m = (served call m).0 ∷ told lines (served call m).1
told (Busy n ∷ lines) m = told lines (with_busy (busied n m.log.busy) m)
told (Idle n ∷ lines) m = told lines (with_busy (eased n m.log.busy) m)

-- a busy handle bars its calls, keeps its bytes, and is had again
a_busy_handle : (window : Site) → told (Ask (asks.NewHandle (Zeros 2)) ∷ Ask (asks.Put (Some 0) 0 (72 ∷ 105 ∷ [])) ∷ Busy 0
    ∷ Ask (asks.GetHandleSize (Some 0)) ∷ Ask asks.MemError ∷ Ask asks.FreeMem ∷ Ask (asks.Show (Some 0))
    ∷ Ask (asks.Put (Some 0) 0 (78 ∷ 111 ∷ [])) ∷ Ask asks.MemError ∷ Ask (asks.HLock (Some 0))
    ∷ Ask (asks.DisposeHandle (Some 0)) ∷ Ask asks.MemError ∷ Idle 0 ∷ Ask (asks.Show (Some 0))
    ∷ Ask (asks.HGetState (Some 0)) ∷ []) (fresh_memory 1024 window)
    ≡ Given 0 ∷ Done ∷ Refused LOCKED ∷ Code LOCKED ∷ Number 720 ∷ Refused LOCKED ∷ Refused LOCKED ∷ Code NO_ERR
    ∷ Refused LOCKED ∷ Refused LOCKED ∷ Code LOCKED ∷ Bytes (72 ∷ 105 ∷ []) ∷ Number 0 ∷ []
a_busy_handle window = refl

-- what isn't there goes first, then what is busy, then what is emptied or locked
the_order_of_refusals : (window : Site) → told (Ask (asks.NewHandle (Zeros 10)) ∷ Ask asks.NewEmptyHandle ∷ Ask (asks.NewPtr 10)
    ∷ Ask (asks.HLock (Some 0)) ∷ Busy 0 ∷ Busy 1 ∷ Busy 2 ∷ Ask (asks.GetHandleSize None)
    ∷ Ask (asks.GetHandleSize (Some 2)) ∷ Ask (asks.GetHandleSize (Some 1)) ∷ Ask (asks.EmptyHandle (Some 0)) ∷ Idle 0
    ∷ Idle 1 ∷ Ask (asks.GetHandleSize (Some 1)) ∷ Ask (asks.EmptyHandle (Some 0)) ∷ Ask (asks.DisposeHandle (Some 0))
    ∷ Busy 0 ∷ Ask (asks.GetHandleSize (Some 0)) ∷ []) (fresh_memory 1024 window)
    ≡ Given 0 ∷ Given 1 ∷ Given 2 ∷ Done ∷ Refused NIL_HANDLE ∷ Refused WRONG_ZONE ∷ Refused LOCKED ∷ Refused LOCKED
    ∷ Refused NIL_HANDLE ∷ Refused PURGED ∷ Done ∷ Refused WRONG_ZONE ∷ []
the_order_of_refusals window = refl

-- the second handle of HandAndHand is asked for where the first has a block
two_handles : (window : Site) → told (Ask (asks.NewHandle (Zeros 10)) ∷ Ask (asks.NewHandle (Zeros 10)) ∷ Busy 1
    ∷ Ask (asks.HandAndHand (Some 0) (Some 1)) ∷ Busy 0 ∷ Ask (asks.HandAndHand (Some 0) (Some 1)) ∷ Idle 0
    ∷ Ask (asks.EmptyHandle (Some 0)) ∷ Ask (asks.HandAndHand (Some 0) (Some 1))
    ∷ Ask (asks.ReallocateHandle (Some 0) 10) ∷ Idle 1 ∷ Ask (asks.GetHandleSize (Some 1))
    ∷ Ask (asks.HandAndHand (Some 0) (Some 1)) ∷ Ask (asks.GetHandleSize (Some 1)) ∷ []) (fresh_memory 1024 window)
    ≡ Given 0 ∷ Given 1 ∷ Refused LOCKED ∷ Refused LOCKED ∷ Done ∷ Refused NIL_HANDLE ∷ Done ∷ Number 10 ∷ Done
    ∷ Number 20 ∷ []
two_handles window = refl

-- a busy pointer bars its calls
a_busy_pointer : (window : Site) → told (Ask (asks.NewPtr 20) ∷ Busy 0 ∷ Ask (asks.PutPtr (Some 0) 0 (120 ∷ []))
    ∷ Ask (asks.Where (Some 0)) ∷ Ask asks.MemError ∷ Ask (asks.GetPtrSize (Some 0)) ∷ Ask (asks.DisposePtr (Some 0))
    ∷ Ask asks.MemError ∷ Idle 0 ∷ Ask (asks.GetPtrSize (Some 0)) ∷ Ask (asks.DisposePtr (Some 0)) ∷ [])
    (fresh_memory 1024 window)
    ≡ Given 0 ∷ Refused LOCKED ∷ Refused LOCKED ∷ Code NO_ERR ∷ Refused LOCKED ∷ Refused LOCKED ∷ Code LOCKED
    ∷ Number 20 ∷ Done ∷ []
a_busy_pointer window = refl

-- the zone of a handle, empty or not, and of a pointer
zones : (window : Site) → told (Ask (asks.NewHandle (Zeros 10)) ∷ Ask (asks.NewPtr 10) ∷ Ask (asks.HandleZone (Some 0))
    ∷ Ask (asks.PtrZone (Some 1)) ∷ Ask (asks.HandleZone (Some 1)) ∷ Ask (asks.PtrZone (Some 0)) ∷ Ask (asks.HandleZone None)
    ∷ Ask (asks.PtrZone None) ∷ Ask (asks.EmptyHandle (Some 0)) ∷ Ask (asks.HandleZone (Some 0)) ∷ Busy 0 ∷ Busy 1
    ∷ Ask (asks.HandleZone (Some 0)) ∷ Ask (asks.PtrZone (Some 1)) ∷ Idle 0 ∷ Idle 1 ∷ Ask (asks.DisposeHandle (Some 0))
    ∷ Ask (asks.HandleZone (Some 0)) ∷ Ask asks.MemError ∷ []) (fresh_memory 1024 window)
    ≡ Given 0 ∷ Given 1 ∷ Number 0 ∷ Number 0 ∷ Refused WRONG_ZONE ∷ Refused WRONG_ZONE ∷ Refused NIL_HANDLE
    ∷ Refused NIL_HANDLE ∷ Done ∷ Number 0 ∷ Refused LOCKED ∷ Refused LOCKED ∷ Done ∷ Refused WRONG_ZONE ∷ Code WRONG_ZONE
    ∷ []
zones window = refl

-- bytes that take the place of a block's own
replaced_bytes : (window : Site) → told (Ask (asks.NewHandle (Zeros 10)) ∷ Ask (asks.PtrToXHand (Some 0) (7 ∷ 8 ∷ []))
    ∷ Ask (asks.Show (Some 0)) ∷ Ask (asks.GetHandleSize (Some 0)) ∷ Ask (asks.PtrToXHand None [])
    ∷ Ask (asks.EmptyHandle (Some 0)) ∷ Ask (asks.PtrToXHand (Some 0) []) ∷ []) (fresh_memory 1024 window)
    ≡ Given 0 ∷ Done ∷ Bytes (7 ∷ 8 ∷ []) ∷ Number 2 ∷ Refused NIL_HANDLE ∷ Done ∷ Refused NIL_HANDLE ∷ []
replaced_bytes window = refl

-- the handle of a block, by where its content stands; nothing stands elsewhere, and no handle's where a pointer's does
recovered : (window : Site) → told (Ask (asks.NewPtr 4) ∷ Ask (asks.NewHandle (Zeros 4)) ∷ Ask (asks.NewHandle (Zeros 2))
    ∷ Ask (asks.Where (Some 2)) ∷ Ask (asks.RecoverHandle 352) ∷ Ask (asks.RecoverHandle 320) ∷ Ask (asks.RecoverHandle 321)
    ∷ Ask asks.MemError ∷ Ask (asks.RecoverHandle 288) ∷ Ask (asks.RecoverHandle 0) ∷ Ask (asks.EmptyHandle (Some 1))
    ∷ Ask (asks.RecoverHandle 320) ∷ []) (fresh_memory 1024 window)
    ≡ Given 0 ∷ Given 1 ∷ Given 2 ∷ Number 352 ∷ Given 2 ∷ Given 1 ∷ Refused WRONG_ZONE ∷ Code WRONG_ZONE
    ∷ Refused WRONG_ZONE ∷ Refused WRONG_ZONE ∷ Done ∷ Refused WRONG_ZONE ∷ []
recovered window = refl

-- bytes that are copied within a block, up and down, and into a pointer's; past the ends; and for busy names
moved_bytes : (window : Site) → told (Ask (asks.NewHandle (CopyOf (1 ∷ 2 ∷ 3 ∷ 4 ∷ []))) ∷ Ask (asks.NewPtr 2)
    ∷ Ask (asks.BlockMove (Some 0) 0 (Some 0) 1 3) ∷ Ask (asks.Show (Some 0)) ∷ Ask (asks.BlockMove (Some 0) 2 (Some 0) 0 2)
    ∷ Ask (asks.Show (Some 0)) ∷ Ask (asks.BlockMove (Some 0) 1 (Some 1) 0 2) ∷ Ask (asks.ShowPtr (Some 1))
    ∷ Ask (asks.BlockMove (Some 0) 3 (Some 1) 0 2) ∷ Ask (asks.BlockMove (Some 0) 0 (Some 1) 1 2)
    ∷ Ask (asks.BlockMove None 9 (Some 1) 0 1) ∷ Ask (asks.BlockMove (Some 1) 9 None 0 1) ∷ Ask asks.MemError ∷ Busy 1
    ∷ Ask (asks.BlockMove (Some 0) 0 (Some 1) 0 1) ∷ Ask (asks.BlockMove (Some 1) 0 (Some 0) 0 1)
    ∷ Ask (asks.BlockMove None 0 (Some 1) 0 1) ∷ Idle 1 ∷ Ask (asks.BlockMove (Some 1) 0 (Some 0) 0 1) ∷ [])
    (fresh_memory 1024 window)
    ≡ Given 0 ∷ Given 1 ∷ Done ∷ Bytes (1 ∷ 1 ∷ 2 ∷ 3 ∷ []) ∷ Done ∷ Bytes (2 ∷ 3 ∷ 2 ∷ 3 ∷ []) ∷ Done ∷ Bytes (3 ∷ 2 ∷ [])
    ∷ Refused PROFILE ∷ Refused PROFILE ∷ Refused NIL_HANDLE ∷ Refused NIL_HANDLE ∷ Code NIL_HANDLE ∷ Refused LOCKED
    ∷ Refused LOCKED ∷ Refused NIL_HANDLE ∷ Done ∷ []
moved_bytes window = refl

-- bytes that are found, and others in their place: longer, shorter, none; put in; so many; what stands at the end
munged_bytes : (window : Site) → told (Ask (asks.NewHandle (CopyOf (1 ∷ 2 ∷ 3 ∷ 2 ∷ 3 ∷ [])))
    ∷ Ask (asks.Munger (Some 0) 0 (Like (2 ∷ 3 ∷ [])) (7 ∷ 8 ∷ 9 ∷ [])) ∷ Ask (asks.Show (Some 0))
    ∷ Ask (asks.MungerNil (Some 0) 1 (Like (2 ∷ 3 ∷ []))) ∷ Ask (asks.Munger (Some 0) 4 (Like (2 ∷ 3 ∷ [])) [])
    ∷ Ask (asks.Show (Some 0)) ∷ Ask (asks.Munger (Some 0) 1 (Like []) (5 ∷ [])) ∷ Ask (asks.Munger (Some 0) 3 (Many 9) (6 ∷ []))
    ∷ Ask (asks.Show (Some 0)) ∷ Ask (asks.Munger (Some 0) 0 (Like (4 ∷ [])) (5 ∷ []))
    ∷ Ask (asks.Munger (Some 0) 2 (Like (7 ∷ 6 ∷ 5 ∷ [])) (4 ∷ [])) ∷ Ask (asks.Show (Some 0))
    ∷ Ask (asks.MungerNil (Some 0) 3 (Like (4 ∷ []))) ∷ Ask (asks.MungerNil (Some 0) 4 (Like [])) ∷ Ask asks.MemError
    ∷ Ask (asks.Munger None 0 (Like []) []) ∷ []) (fresh_memory 1024 window)
    ≡ Given 0 ∷ Offset (pos 4) ∷ Bytes (1 ∷ 7 ∷ 8 ∷ 9 ∷ 2 ∷ 3 ∷ []) ∷ Offset (pos 4) ∷ Offset (pos 4)
    ∷ Bytes (1 ∷ 7 ∷ 8 ∷ 9 ∷ []) ∷ Offset (pos 2) ∷ Offset (pos 4) ∷ Bytes (1 ∷ 5 ∷ 7 ∷ 6 ∷ []) ∷ Offset (negsuc 0)
    ∷ Offset (pos 3) ∷ Bytes (1 ∷ 5 ∷ 4 ∷ []) ∷ Offset (negsuc 0) ∷ Refused PROFILE ∷ Code PROFILE ∷ Refused NIL_HANDLE ∷ []
munged_bytes window = refl

-- a number that became busy twice is idle at once, and a fourth isn't kept
twice_busy : is_busy 7 (eased 7 (busied 7 (busied 7 idle))) ≡ false
twice_busy = refl

a_fourth_is_not_kept : is_busy 4 (busied 4 (busied 3 (busied 2 (busied 1 idle)))) ≡ false
a_fourth_is_not_kept = refl

three_are_kept : is_busy 3 (busied 4 (busied 3 (busied 2 (busied 1 idle)))) ≡ true
three_are_kept = refl
