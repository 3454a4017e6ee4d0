use Rattle.heap_calls.proofs.Cited.{◌≡◌, ℕ, true, false, zero, suc, [], ◌∷◌, replicate, refl, Some, Err, NO_ERR, MEM_FULL, NIL_HANDLE}
use Rattle.heap_calls.proofs.Cited.{PROFILE, Flags, Free, Nonrelocatable, Masters, Relocatable, is_relocatable, has, State, Handle, Pointer}
use Rattle.heap_calls.proofs.Cited.{Plain, fresh_heap, put, show, h_purge, purge_mem, NewHandle, Zeros, PurgeMem, NewPtr, code_left}
use Rattle.heap_calls.proofs.Cited.{zone_left, ease, answer_made}
use Rattle.heap_calls.specs.Table.{Put}
use Rattle.heap_calls.specs.Rows as rows

-- What refused calls leave, on small zones.

-- a block of 480 bytes that may be purged, in a zone of 1024
abbrev with_block : State
with_block = (h_purge (Some 0) (answer_made (rows.new_handle 480) (fresh_heap 1024)).1).1

abbrev with_empty : ℕ → State → State
with_empty zero s = s
with_empty (suc n) s = with_empty n (answer_made rows.new_empty_handle s).1

-- and 63 empty handles: all slots are used
abbrev full : State
full = with_empty 63 with_block

block-there : has (is_relocatable 0) full.zone ≡ true
block-there = refl

-- there is no room for 700 bytes beside a new Masters block
no-room : (answer_made (rows.new_handle 700) full).0 ≡ Err MEM_FULL
no-room = refl

-- and the block is emptied by the search for that
block-emptied : (show (Some 0) (answer_made (rows.new_handle 700) full).1).0 ≡ Err NIL_HANDLE
block-emptied = refl

masters-left : zone_left (NewHandle (Zeros 700)) full ≡ Masters ∷ Masters ∷ Free 480 ∷ []
masters-left = refl

-- the new block takes its bytes from what can be had
had-before : ease full.zone ≡ 752
had-before = refl

had-after : ease (zone_left (NewHandle (Zeros 700)) full) ≡ 480
had-after = refl

-- a search for a block alone leaves it
block-left : zone_left (NewPtr 900) full ≡ full.zone
block-left = refl

abbrev purgeable : Flags
purgeable = record { locked = false; purgeable = true }

-- the block of handle 0, which may be purged, below that of pointer 1
abbrev heap : State
heap = record {
  zone = Masters ∷ Relocatable 0 purgeable (replicate 8 0) ∷ Nonrelocatable 1 (replicate 8 0) ∷ [];
  names = Handle Plain ∷ Pointer ∷ [];
}

-- PurgeMem empties it for more than it gives
too-much : (purge_mem 100 heap).0 ≡ Err MEM_FULL
too-much = refl

purged-left : zone_left (PurgeMem 100) heap ≡ Masters ∷ Free 32 ∷ Nonrelocatable 1 (replicate 8 0) ∷ []
purged-left = refl

-- a refused Put leaves MemError's code
past-end : (put (Some 0) 8 (1 ∷ []) heap).0 ≡ Err PROFILE
past-end = refl

code-stays : code_left (Put (Some 0) 8 (1 ∷ [])) PROFILE NO_ERR ≡ NO_ERR
code-stays = refl
