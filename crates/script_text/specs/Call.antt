use Rattle.std.specs.Prelude.{ℕ, Bool, true, false, bytes_eq, Option, Result, Ok, List, [], ◌∷◌, codes, find}
use Rattle.mac_words.specs.declared.call.Call.{Call}
use Rattle.mac_words.specs.declared.call.Call.TheVariants as call
use Rattle.mac_words.specs.declared.call.ControlCall.{ControlCall}
use Rattle.mac_words.specs.declared.call.ControlCall.TheVariants as control
use Rattle.mac_words.specs.declared.call.HeapCall.{HeapCall}
use Rattle.mac_words.specs.declared.call.HeapCall.TheVariants as heap
use Rattle.mac_words.specs.declared.resource_call.ResourceCall.{ResourceCall}
use Rattle.mac_words.specs.declared.resource_call.ResourceCall.TheVariants as resource
use Rattle.mac_words.specs.declared.segment_call.SegmentCall.{SegmentCall}
use Rattle.mac_words.specs.declared.segment_call.SegmentCall.TheVariants as segment
use Rattle.script_text.specs.declared.fault.FaultKind.{FaultKind}
use Rattle.script_text.specs.declared.word.CallWord.{CallWord}
use Rattle.script_text.specs.declared.word.CallWord.TheVariants as word
use Rattle.script_text.specs.declared.word.TheConstants.{WORDS}
use Rattle.script_text.specs.Reading.{◌>>=◌}
use Rattle.script_text.specs.Argument.{Kind, Label, Size, Id, Byte, ResType, Bytes, File, Text, Switch, Target}
use Rattle.script_text.specs.Argument.{Replacement, Value, Letters, Number, Signed, Raw, Flag, target_seen}
use Rattle.script_text.specs.Argument.{replacement_seen, arguments}

-- The table of calls: how each call is spelled, and the kinds of its arguments.
abbrev pub row : CallWord → List ℕ × List Kind
row word.NewHandle = (codes "NewHandle", Label ∷ Size ∷ [])
row word.NewEmptyHandle = (codes "NewEmptyHandle", Label ∷ [])
row word.DisposeHandle = (codes "DisposeHandle", Label ∷ [])
row word.GetHandleSize = (codes "GetHandleSize", Label ∷ [])
row word.SetHandleSize = (codes "SetHandleSize", Label ∷ Size ∷ [])
row word.ReallocateHandle = (codes "ReallocateHandle", Label ∷ Size ∷ [])
row word.EmptyHandle = (codes "EmptyHandle", Label ∷ [])
row word.HLock = (codes "HLock", Label ∷ [])
row word.HUnlock = (codes "HUnlock", Label ∷ [])
row word.HPurge = (codes "HPurge", Label ∷ [])
row word.HNoPurge = (codes "HNoPurge", Label ∷ [])
row word.HGetState = (codes "HGetState", Label ∷ [])
row word.HSetState = (codes "HSetState", Label ∷ Byte ∷ [])
row word.HandleZone = (codes "HandleZone", Label ∷ [])
row word.RecoverHandle = (codes "RecoverHandle", Label ∷ Size ∷ [])
row word.MoveHHi = (codes "MoveHHi", Label ∷ [])
row word.HLockHi = (codes "HLockHi", Label ∷ [])
row word.HandToHand = (codes "HandToHand", Label ∷ Label ∷ [])
row word.PtrToHand = (codes "PtrToHand", Label ∷ Bytes ∷ [])
row word.HandAndHand = (codes "HandAndHand", Label ∷ Label ∷ [])
row word.PtrAndHand = (codes "PtrAndHand", Label ∷ Bytes ∷ [])
row word.PtrToXHand = (codes "PtrToXHand", Label ∷ Bytes ∷ [])
row word.Munger = (codes "Munger", Label ∷ Size ∷ Target ∷ Replacement ∷ [])
row word.NewPtr = (codes "NewPtr", Label ∷ Size ∷ [])
row word.DisposePtr = (codes "DisposePtr", Label ∷ [])
row word.GetPtrSize = (codes "GetPtrSize", Label ∷ [])
row word.SetPtrSize = (codes "SetPtrSize", Label ∷ Size ∷ [])
row word.PtrZone = (codes "PtrZone", Label ∷ [])
row word.BlockMove = (codes "BlockMove", Label ∷ Size ∷ Label ∷ Size ∷ Size ∷ [])
row word.FreeMem = (codes "FreeMem", [])
row word.MaxBlock = (codes "MaxBlock", [])
row word.PurgeSpace = (codes "PurgeSpace", [])
row word.CompactMem = (codes "CompactMem", Size ∷ [])
row word.PurgeMem = (codes "PurgeMem", Size ∷ [])
row word.MaxMem = (codes "MaxMem", [])
row word.ReserveMem = (codes "ReserveMem", Size ∷ [])
row word.MoreMasters = (codes "MoreMasters", [])
row word.MemError = (codes "MemError", [])
row word.SetGrowZone = (codes "SetGrowZone", Label ∷ [])
row word.OpenResFile = (codes "OpenResFile", File ∷ [])
row word.CreateResFile = (codes "CreateResFile", File ∷ [])
row word.CloseResFile = (codes "CloseResFile", Size ∷ [])
row word.UpdateResFile = (codes "UpdateResFile", Size ∷ [])
row word.UseResFile = (codes "UseResFile", Size ∷ [])
row word.CurResFile = (codes "CurResFile", [])
row word.HomeResFile = (codes "HomeResFile", Label ∷ [])
row word.GetResource = (codes "GetResource", Label ∷ ResType ∷ Id ∷ [])
row word.Get1Resource = (codes "Get1Resource", Label ∷ ResType ∷ Id ∷ [])
row word.GetNamedResource = (codes "GetNamedResource", Label ∷ ResType ∷ Text ∷ [])
row word.Get1NamedResource = (codes "Get1NamedResource", Label ∷ ResType ∷ Text ∷ [])
row word.GetResFileAttrs = (codes "GetResFileAttrs", Size ∷ [])
row word.SetResFileAttrs = (codes "SetResFileAttrs", Size ∷ Byte ∷ [])
row word.CountTypes = (codes "CountTypes", [])
row word.Count1Types = (codes "Count1Types", [])
row word.GetIndType = (codes "GetIndType", Size ∷ [])
row word.Get1IndType = (codes "Get1IndType", Size ∷ [])
row word.CountResources = (codes "CountResources", ResType ∷ [])
row word.Count1Resources = (codes "Count1Resources", ResType ∷ [])
row word.GetIndResource = (codes "GetIndResource", Label ∷ ResType ∷ Size ∷ [])
row word.Get1IndResource = (codes "Get1IndResource", Label ∷ ResType ∷ Size ∷ [])
row word.UniqueID = (codes "UniqueID", ResType ∷ [])
row word.Unique1ID = (codes "Unique1ID", ResType ∷ [])
row word.LoadResource = (codes "LoadResource", Label ∷ [])
row word.ReleaseResource = (codes "ReleaseResource", Label ∷ [])
row word.DetachResource = (codes "DetachResource", Label ∷ [])
row word.AddResource = (codes "AddResource", Label ∷ ResType ∷ Id ∷ Text ∷ [])
row word.RemoveResource = (codes "RemoveResource", Label ∷ [])
row word.ChangedResource = (codes "ChangedResource", Label ∷ [])
row word.WriteResource = (codes "WriteResource", Label ∷ [])
row word.GetResInfo = (codes "GetResInfo", Label ∷ [])
row word.SetResInfo = (codes "SetResInfo", Label ∷ Id ∷ Text ∷ [])
row word.GetResAttrs = (codes "GetResAttrs", Label ∷ [])
row word.SetResAttrs = (codes "SetResAttrs", Label ∷ Byte ∷ [])
row word.GetResourceSizeOnDisk = (codes "GetResourceSizeOnDisk", Label ∷ [])
row word.ReadPartialResource = (codes "ReadPartialResource", Label ∷ Size ∷ Size ∷ [])
row word.WritePartialResource = (codes "WritePartialResource", Label ∷ Size ∷ Bytes ∷ [])
row word.SetResourceSize = (codes "SetResourceSize", Label ∷ Size ∷ [])
row word.SetResPurge = (codes "SetResPurge", Switch ∷ [])
row word.SetResLoad = (codes "SetResLoad", Switch ∷ [])
row word.ResError = (codes "ResError", [])
row word.LoadSeg = (codes "LoadSeg", Id ∷ [])
row word.UnloadSeg = (codes "UnloadSeg", Id ∷ [])
row word.CallEntry = (codes "CallEntry", Size ∷ [])
row word.ShowEntry = (codes "ShowEntry", Size ∷ [])
row word.Put = (codes "Put", Label ∷ Size ∷ Bytes ∷ [])
row word.Show = (codes "Show", Label ∷ [])
row word.PutPtr = (codes "PutPtr", Label ∷ Size ∷ Bytes ∷ [])
row word.ShowPtr = (codes "ShowPtr", Label ∷ [])
row word.Where = (codes "Where", Label ∷ [])
row word.WaitNextEvent = (codes "WaitNextEvent", [])
row word.ExitToShell = (codes "ExitToShell", [])
row word.NewHandleClear = (codes "NewHandleClear", Label ∷ Size ∷ [])
row word.NewPtrClear = (codes "NewPtrClear", Label ∷ Size ∷ [])
row word.SizeResource = (codes "SizeResource", Label ∷ [])
row word.MaxSizeRsrc = (codes "MaxSizeRsrc", Label ∷ [])
row word.InlineGetHandleSize = (codes "InlineGetHandleSize", Label ∷ [])
row word.BlockMoveData = (codes "BlockMoveData", Label ∷ Size ∷ Label ∷ Size ∷ Size ∷ [])

-- The word of the call that a word names: some calls have another name.
-- See decision 232 (another name of a call is a word for the call).
abbrev pub meant : CallWord → CallWord
meant word.NewHandleClear = word.NewHandle
meant word.NewPtrClear = word.NewPtr
meant word.SizeResource = word.GetResourceSizeOnDisk
meant word.MaxSizeRsrc = word.GetResourceSizeOnDisk
meant word.InlineGetHandleSize = word.GetHandleSize
meant word.BlockMoveData = word.BlockMove
meant w = w

-- The spelling of a call.
abbrev pub spelling : CallWord → List ℕ
spelling w = (row w).0

-- The kinds of a call's arguments.
abbrev pub kinds : CallWord → List Kind
kinds w = (row w).1

-- A call of the Memory Manager as its word and the values of its arguments.
abbrev pub heap_spoken : HeapCall → CallWord × List Value
heap_spoken (heap.NewHandle h size) = (word.NewHandle, Letters h.0.items ∷ Number size ∷ [])
heap_spoken (heap.NewEmptyHandle h) = (word.NewEmptyHandle, Letters h.0.items ∷ [])
heap_spoken (heap.DisposeHandle h) = (word.DisposeHandle, Letters h.0.items ∷ [])
heap_spoken (heap.GetHandleSize h) = (word.GetHandleSize, Letters h.0.items ∷ [])
heap_spoken (heap.SetHandleSize h size) = (word.SetHandleSize, Letters h.0.items ∷ Number size ∷ [])
heap_spoken (heap.ReallocateHandle h size) = (word.ReallocateHandle, Letters h.0.items ∷ Number size ∷ [])
heap_spoken (heap.EmptyHandle h) = (word.EmptyHandle, Letters h.0.items ∷ [])
heap_spoken (heap.HLock h) = (word.HLock, Letters h.0.items ∷ [])
heap_spoken (heap.HUnlock h) = (word.HUnlock, Letters h.0.items ∷ [])
heap_spoken (heap.HPurge h) = (word.HPurge, Letters h.0.items ∷ [])
heap_spoken (heap.HNoPurge h) = (word.HNoPurge, Letters h.0.items ∷ [])
heap_spoken (heap.HGetState h) = (word.HGetState, Letters h.0.items ∷ [])
heap_spoken (heap.HSetState h byte) = (word.HSetState, Letters h.0.items ∷ Number byte ∷ [])
heap_spoken (heap.HandleZone h) = (word.HandleZone, Letters h.0.items ∷ [])
heap_spoken (heap.RecoverHandle h place) = (word.RecoverHandle, Letters h.0.items ∷ Number place ∷ [])
heap_spoken (heap.MoveHHi h) = (word.MoveHHi, Letters h.0.items ∷ [])
heap_spoken (heap.HLockHi h) = (word.HLockHi, Letters h.0.items ∷ [])
heap_spoken (heap.HandToHand b a) = (word.HandToHand, Letters b.0.items ∷ Letters a.value.0.items ∷ [])
heap_spoken (heap.PtrToHand h bytes) = (word.PtrToHand, Letters h.0.items ∷ Raw bytes.items ∷ [])
heap_spoken (heap.HandAndHand a b) = (word.HandAndHand, Letters a.0.items ∷ Letters b.value.0.items ∷ [])
heap_spoken (heap.PtrAndHand h bytes) = (word.PtrAndHand, Letters h.0.items ∷ Raw bytes.items ∷ [])
heap_spoken (heap.PtrToXHand h bytes) = (word.PtrToXHand, Letters h.0.items ∷ Raw bytes.items ∷ [])
heap_spoken (heap.Munger h offset old new) =
    (word.Munger, Letters h.0.items ∷ Number offset ∷ target_seen old.value ∷ replacement_seen new.value ∷ [])
heap_spoken (heap.NewPtr p size) = (word.NewPtr, Letters p.0.items ∷ Number size ∷ [])
heap_spoken (heap.DisposePtr p) = (word.DisposePtr, Letters p.0.items ∷ [])
heap_spoken (heap.GetPtrSize p) = (word.GetPtrSize, Letters p.0.items ∷ [])
heap_spoken (heap.SetPtrSize p size) = (word.SetPtrSize, Letters p.0.items ∷ Number size ∷ [])
heap_spoken (heap.PtrZone p) = (word.PtrZone, Letters p.0.items ∷ [])
heap_spoken (heap.BlockMove a from b to count) =
    (word.BlockMove, Letters a.0.items ∷ Number from ∷ Letters b.value.0.items ∷ Number to ∷ Number count ∷ [])
heap_spoken heap.FreeMem = (word.FreeMem, [])
heap_spoken heap.MaxBlock = (word.MaxBlock, [])
heap_spoken heap.PurgeSpace = (word.PurgeSpace, [])
heap_spoken (heap.CompactMem size) = (word.CompactMem, Number size ∷ [])
heap_spoken (heap.PurgeMem size) = (word.PurgeMem, Number size ∷ [])
heap_spoken heap.MaxMem = (word.MaxMem, [])
heap_spoken (heap.ReserveMem size) = (word.ReserveMem, Number size ∷ [])
heap_spoken heap.MoreMasters = (word.MoreMasters, [])
heap_spoken heap.MemError = (word.MemError, [])
heap_spoken (heap.Put h offset bytes) = (word.Put, Letters h.0.items ∷ Number offset ∷ Raw bytes.items ∷ [])
heap_spoken (heap.Show h) = (word.Show, Letters h.0.items ∷ [])
heap_spoken (heap.PutPtr p offset bytes) = (word.PutPtr, Letters p.0.items ∷ Number offset ∷ Raw bytes.items ∷ [])
heap_spoken (heap.ShowPtr p) = (word.ShowPtr, Letters p.0.items ∷ [])
heap_spoken (heap.Where name) = (word.Where, Letters name.0.items ∷ [])

-- A call of the Resource Manager as its word and the values of its arguments.
abbrev pub resource_spoken : ResourceCall → CallWord × List Value
resource_spoken (resource.OpenResFile file) = (word.OpenResFile, Raw file.0.items ∷ [])
resource_spoken (resource.CreateResFile file) = (word.CreateResFile, Raw file.0.items ∷ [])
resource_spoken (resource.CloseResFile n) = (word.CloseResFile, Number n ∷ [])
resource_spoken (resource.UpdateResFile n) = (word.UpdateResFile, Number n ∷ [])
resource_spoken (resource.UseResFile n) = (word.UseResFile, Number n ∷ [])
resource_spoken resource.CurResFile = (word.CurResFile, [])
resource_spoken (resource.HomeResFile h) = (word.HomeResFile, Letters h.0.items ∷ [])
resource_spoken (resource.GetResource h ty id) = (word.GetResource, Letters h.0.items ∷ Raw ty.0 ∷ Signed id ∷ [])
resource_spoken (resource.Get1Resource h ty id) = (word.Get1Resource, Letters h.0.items ∷ Raw ty.0 ∷ Signed id ∷ [])
resource_spoken (resource.GetNamedResource h ty text) =
    (word.GetNamedResource, Letters h.0.items ∷ Raw ty.0 ∷ Raw text.value.0.items ∷ [])
resource_spoken (resource.Get1NamedResource h ty text) =
    (word.Get1NamedResource, Letters h.0.items ∷ Raw ty.0 ∷ Raw text.value.0.items ∷ [])
resource_spoken (resource.GetResFileAttrs n) = (word.GetResFileAttrs, Number n ∷ [])
resource_spoken (resource.SetResFileAttrs n byte) = (word.SetResFileAttrs, Number n ∷ Number byte ∷ [])
resource_spoken resource.CountTypes = (word.CountTypes, [])
resource_spoken resource.Count1Types = (word.Count1Types, [])
resource_spoken (resource.GetIndType n) = (word.GetIndType, Number n ∷ [])
resource_spoken (resource.Get1IndType n) = (word.Get1IndType, Number n ∷ [])
resource_spoken (resource.CountResources ty) = (word.CountResources, Raw ty.0 ∷ [])
resource_spoken (resource.Count1Resources ty) = (word.Count1Resources, Raw ty.0 ∷ [])
resource_spoken (resource.GetIndResource h ty n) = (word.GetIndResource, Letters h.0.items ∷ Raw ty.0 ∷ Number n ∷ [])
resource_spoken (resource.Get1IndResource h ty n) = (word.Get1IndResource, Letters h.0.items ∷ Raw ty.0 ∷ Number n ∷ [])
resource_spoken (resource.UniqueID ty) = (word.UniqueID, Raw ty.0 ∷ [])
resource_spoken (resource.Unique1ID ty) = (word.Unique1ID, Raw ty.0 ∷ [])
resource_spoken (resource.LoadResource h) = (word.LoadResource, Letters h.0.items ∷ [])
resource_spoken (resource.ReleaseResource h) = (word.ReleaseResource, Letters h.0.items ∷ [])
resource_spoken (resource.DetachResource h) = (word.DetachResource, Letters h.0.items ∷ [])
resource_spoken (resource.AddResource h ty id text) =
    (word.AddResource, Letters h.0.items ∷ Raw ty.0 ∷ Signed id ∷ Raw text.value.0.items ∷ [])
resource_spoken (resource.RemoveResource h) = (word.RemoveResource, Letters h.0.items ∷ [])
resource_spoken (resource.ChangedResource h) = (word.ChangedResource, Letters h.0.items ∷ [])
resource_spoken (resource.WriteResource h) = (word.WriteResource, Letters h.0.items ∷ [])
resource_spoken (resource.GetResInfo h) = (word.GetResInfo, Letters h.0.items ∷ [])
resource_spoken (resource.SetResInfo h id text) =
    (word.SetResInfo, Letters h.0.items ∷ Signed id ∷ Raw text.value.0.items ∷ [])
resource_spoken (resource.GetResAttrs h) = (word.GetResAttrs, Letters h.0.items ∷ [])
resource_spoken (resource.SetResAttrs h byte) = (word.SetResAttrs, Letters h.0.items ∷ Number byte ∷ [])
resource_spoken (resource.GetResourceSizeOnDisk h) = (word.GetResourceSizeOnDisk, Letters h.0.items ∷ [])
resource_spoken (resource.ReadPartialResource h offset count) =
    (word.ReadPartialResource, Letters h.0.items ∷ Number offset ∷ Number count ∷ [])
resource_spoken (resource.WritePartialResource h offset bytes) =
    (word.WritePartialResource, Letters h.0.items ∷ Number offset ∷ Raw bytes.items ∷ [])
resource_spoken (resource.SetResourceSize h size) = (word.SetResourceSize, Letters h.0.items ∷ Number size ∷ [])
resource_spoken (resource.SetResPurge on) = (word.SetResPurge, Flag on ∷ [])
resource_spoken (resource.SetResLoad on) = (word.SetResLoad, Flag on ∷ [])
resource_spoken resource.ResError = (word.ResError, [])

-- A call of the Segment Manager, or through the jump table, as its word and the values of its arguments.
abbrev pub segment_spoken : SegmentCall → CallWord × List Value
segment_spoken (segment.LoadSeg id) = (word.LoadSeg, Signed id ∷ [])
segment_spoken (segment.UnloadSeg id) = (word.UnloadSeg, Signed id ∷ [])
segment_spoken (segment.CallEntry n) = (word.CallEntry, Number n ∷ [])
segment_spoken (segment.ShowEntry n) = (word.ShowEntry, Number n ∷ [])

-- A call by which an application controls how it is run, as its word and the values of its arguments.
abbrev pub control_spoken : ControlCall → CallWord × List Value
control_spoken (control.SetGrowZone name) = (word.SetGrowZone, Letters name.0.items ∷ [])
control_spoken control.WaitNextEvent = (word.WaitNextEvent, [])
control_spoken control.ExitToShell = (word.ExitToShell, [])

-- A call as its word and the values of its arguments.
abbrev pub spoken : Call → CallWord × List Value
spoken (call.Heap c) = heap_spoken c
spoken (call.Resource c) = resource_spoken c
spoken (call.Segment c) = segment_spoken c
spoken (call.Control c) = control_spoken c

-- The word of a call.
abbrev pub word_of : Call → CallWord
word_of c = (spoken c).0

-- Whether a grow-zone script may hold the call of this word.
-- See decision 95 (a line that would end the application cannot stand in a grow-zone script).
abbrev pub may_stand : CallWord → Bool
may_stand word.EmptyHandle = true
may_stand word.DisposeHandle = true
may_stand word.DisposePtr = true
may_stand word.HPurge = true
may_stand word.HNoPurge = true
may_stand word.HUnlock = true
may_stand word.ReleaseResource = true
may_stand word.UnloadSeg = true
may_stand _ = false

-- Whether a grow-zone script may hold this call.
abbrev pub is_allowed : Call → Bool
is_allowed c = may_stand (word_of c)

-- The word that a token spells.
unfoldable pub word_spelled : List ℕ → Option CallWord
word_spelled token = find (λ w. bytes_eq (spelling w) token) WORDS

-- The word of a call and the values of its arguments, which a text spells, by the word before it.
abbrev pub call_read : CallWord → List ℕ → Result (CallWord × List Value) FaultKind
call_read word text = do
  values ← arguments (kinds word) text
  Ok (meant word, values)
