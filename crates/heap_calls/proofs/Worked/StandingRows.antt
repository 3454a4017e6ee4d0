use Rattle.heap_calls.proofs.Cited.{◌≡◌, true, [], ◌∷◌, replicate, refl, Some, None, Free, Nonrelocatable, Masters, Relocatable, no_flags}
use Rattle.heap_calls.proofs.Cited.{State, Handle, Pointer, Plain, dispose_pointer, max_mem, pointer_place, disposes, DisposePtr}
use Rattle.heap_calls.proofs.Cited.{answer_made}
use Rattle.heap_calls.specs.Rows as rows

-- The place of a pointer's block, on a small zone.

-- pointer 1 stands above the block of handle 0 and 64 Free bytes
abbrev heap : State
heap = record {
  zone = Masters ∷ Relocatable 0 no_flags (replicate 8 0) ∷ Free 64 ∷ Nonrelocatable 1 (replicate 8 0) ∷ Free 64 ∷ [];
  names = Handle Plain ∷ Pointer ∷ [];
}

pointer-here : pointer_place 1 heap.zone ≡ Some 368
pointer-here = refl

handle-none : pointer_place 0 heap.zone ≡ None
handle-none = refl

-- it grows where it is
pointer-grows : pointer_place 1 (answer_made (rows.set_pointer_size (Some 1) 40) heap).1.zone ≡ Some 368
pointer-grows = refl

-- what is new below it goes around it
pointer-alone : pointer_place 1 (answer_made (rows.new_pointer 32) heap).1.zone ≡ Some 368
pointer-alone = refl

pointer-next : pointer_place 2 (answer_made (rows.new_pointer 32) heap).1.zone ≡ Some 272
pointer-next = refl

-- no compaction moves it
pointer-stays : pointer_place 1 (max_mem heap).1.zone ≡ Some 368
pointer-stays = refl

-- it has no place once it is disposed of
pointer-gone : pointer_place 1 (dispose_pointer (Some 1) heap).1.zone ≡ None
pointer-gone = refl

pointer-disposed : disposes 1 (DisposePtr (Some 1)) ≡ true
pointer-disposed = refl
