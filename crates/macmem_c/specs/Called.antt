use Rattle.std.specs.Prelude.{◌≡◌, ℕ, ℤ, Option, Some, None, Result, List, length}
use Rattle.mac_words.specs.Told.{Told, Given, Number, Numbers, Offset, Bytes}
use Rattle.mac_words.specs.declared.code.OsErr.{OsErr}
use Rattle.heap_calls.specs.Serving.{Zeros, CopyOf, telling, told_as}
use Rattle.heap_calls.specs.Table.{Asked}
use Rattle.heap_calls.specs.Table as asked
use Rattle.heap_calls.specs.Munging.{target_of}
use Rattle.heap_calls.specs.State.{Memory, CountedMemory}
use Rattle.heap_calls.specs.Inner.Given.{IsAnswer}
use Rattle.heap_calls.specs.declared.refusal.Refusal.{Refusal}
use Rattle.heap_calls.specs.Table.{served}
use Rattle.applications.specs.Trying.{code_told}
use Rattle.desk.specs.Lying.{LieAs}
use Rattle.macmem_c.specs.Delivered.{laid_over}
use Rattle.macmem_c.specs.declared.calls.Change.{Change}
use Rattle.macmem_c.specs.declared.calls.Change.TheVariants as change
use Rattle.macmem_c.specs.declared.calls.Question.{Question}
use Rattle.macmem_c.specs.declared.calls.Question.TheVariants as question
use Rattle.macmem_c.specs.declared.calls.Fitting.{Fitting}
use Rattle.macmem_c.specs.declared.calls.Fitting.TheVariants as fit
use Rattle.macmem_c.specs.declared.calls.Making.{Making}
use Rattle.macmem_c.specs.declared.calls.Making.TheVariants as make
use Rattle.macmem_c.specs.declared.calls.Counting.{Counting}
use Rattle.macmem_c.specs.declared.calls.Counting.TheVariants as count
use Rattle.macmem_c.specs.declared.calls.Munging.{Munging}
use Rattle.macmem_c.specs.declared.calls.Munging.TheVariants as munge

-- What C gets of a call of the Memory Manager's table. Inside Macintosh: Memory, chapter 2, "Memory Manager Routines".

-- The code and the heap after the call are those of the table.
pub record IsServed (asked : Asked) (before after : CountedMemory) (code : ℤ) : Type 0 where
  pub code_is : code ≡ (code_told (served asked before.memory).0).0
  pub heap_is : after.memory ≡ (served asked before.memory).1

-- The same of what C keeps: there is a zone after the call, as there was before.
abbrev pub Serves : Asked → Option CountedMemory → Option CountedMemory → ℤ → Type 0
Serves asked (Some before) (Some after) code = IsServed asked before after code
Serves asked (Some before) None code = ⊥
Serves asked None after code = Unit {0}

-- The number that a reply has, or the one before.
abbrev pub number_or : ℕ → Told → ℕ
number_or before (Given number) = number
number_or before (Number number) = number
number_or before told = before

-- The number that C has after the call.
abbrev pub number_after : Asked → Option CountedMemory → ℕ → ℕ
number_after asked None before = before
number_after asked (Some heap) before = number_or before (served asked heap.memory).0

-- The offset that C has after the call: that of the reply, or the one before.
abbrev pub offset_or : ℤ → Told → ℤ
offset_or before (Offset offset) = offset
offset_or before told = before

abbrev pub offset_after : Asked → Option CountedMemory → ℤ → ℤ
offset_after asked None before = before
offset_after asked (Some heap) before = offset_or before (served asked heap.memory).0

-- The two numbers that C has are those of a reply that has two.
abbrev pub are_told : Told → ℕ → ℕ → Type 0
are_told (Numbers one other) first second = (first ≡ one) × (second ≡ other)
are_told told first second = ⊥

abbrev pub AreNumbers : Asked → Option CountedMemory → ℕ → ℕ → Type 0
AreNumbers asked None first second = Unit {0}
AreNumbers asked (Some heap) first second = are_told (served asked heap.memory).0 first second

-- The bytes that C has, and their count, are those in which a heap lies.
pub record IsImage (heap : CountedMemory) (before after : List ℕ) (count : ℕ) : Type 0 where
  pub bytes : List ℕ
  pub lies : LieAs heap.memory.heap bytes
  pub front_is : after ≡ laid_over bytes before
  pub count_is : count ≡ length bytes

-- The bytes that C has, and their count, are those of a reply that has bytes; they are as they were where it has none.
abbrev pub is_shown : Told → List ℕ → ℕ → List ℕ → ℕ → Type 0
is_shown (Bytes bytes) before count after new_count = (after ≡ laid_over bytes before) × (new_count ≡ length bytes)
is_shown told before count after new_count = (after ≡ before) × (new_count ≡ count)

abbrev pub IsShown : Asked → Option CountedMemory → List ℕ → ℕ → List ℕ → ℕ → Type 0
IsShown asked None before count after new_count = Unit {0}
IsShown asked (Some heap) before count after new_count = is_shown (served asked heap.memory).0 before count after new_count

-- The calls of the table, by the kinds in which they are made.
abbrev pub changing : Change → Option ℕ → Asked
changing change.DisposeHandle name = asked.DisposeHandle name
changing change.EmptyHandle name = asked.EmptyHandle name
changing change.HLock name = asked.HLock name
changing change.HUnlock name = asked.HUnlock name
changing change.HPurge name = asked.HPurge name
changing change.HNoPurge name = asked.HNoPurge name
changing change.MoveHHi name = asked.MoveHHi name
changing change.HLockHi name = asked.HLockHi name
changing (change.HSetState state) name = asked.HSetState name state
changing change.DisposePtr name = asked.DisposePtr name
changing (change.BlockMove start to offset count) name = asked.BlockMove name start (Some to) offset count
changing (change.Put from bytes) name = asked.Put name from bytes.now
changing (change.PutPtr from bytes) name = asked.PutPtr name from bytes.now

abbrev pub asking : Question → Option ℕ → Asked
asking question.GetHandleSize name = asked.GetHandleSize name
asking question.HandleZone name = asked.HandleZone name
asking question.GetPtrSize name = asked.GetPtrSize name
asking question.PtrZone name = asked.PtrZone name
asking question.Where name = asked.Where name

abbrev pub fitting : Fitting → Asked
fitting (fit.SetHandleSize handle size) = asked.SetHandleSize (Some handle) size
fitting (fit.ReallocateHandle handle size) = asked.ReallocateHandle (Some handle) size
fitting (fit.HandAndHand from to) = asked.HandAndHand (Some from) (Some to)
fitting (fit.PtrAndHand handle bytes) = asked.PtrAndHand (Some handle) bytes.now
fitting (fit.PtrToXHand handle bytes) = asked.PtrToXHand (Some handle) bytes.now
fitting (fit.SetPtrSize pointer size) = asked.SetPtrSize (Some pointer) size
fitting (fit.PurgeMem size) = asked.PurgeMem size
fitting (fit.ReserveMem size) = asked.ReserveMem size
fitting fit.MoreMasters = asked.MoreMasters

abbrev pub making : Making → Asked
making (make.NewHandle size) = asked.NewHandle (Zeros size)
making make.NewEmptyHandle = asked.NewEmptyHandle
making (make.HandToHand handle) = asked.HandToHand (Some handle)
making (make.PtrToHand bytes) = asked.NewHandle (CopyOf bytes.now)
making (make.NewPtr size) = asked.NewPtr size

abbrev pub counting : Counting → Asked
counting count.FreeMem = asked.FreeMem
counting count.MaxBlock = asked.MaxBlock
counting (count.CompactMem size) = asked.CompactMem size

abbrev pub munging : Munging → Asked
munging (munge.Munger handle from old new) = asked.Munger (Some handle) from (target_of old.now) new.now
munging (munge.MungerNil handle from old) = asked.MungerNil (Some handle) from (target_of old.now)

-- What a function on a heap answers, and the heap that it leaves, are those of the table.
pub record IsAnswered {T : Type 0} (call : Asked) (tell : T → Told) (before : Memory) (result : Result T OsErr)
    (after : Memory) : Type 0 where
  pub row : served call before ≡ (told_as tell result, after)

-- The same of a function that may find the host out of memory, of which nothing is said then.
pub record AnswersRow {T : Type 0} (call : Asked) (tell : T → Told) (before : Memory) (result : Result T Refusal)
    (after : Memory) : Type 0 where
  pub given : Result T OsErr × Memory
  pub row : served call before ≡ telling tell given
  pub answer : IsAnswer given result after
