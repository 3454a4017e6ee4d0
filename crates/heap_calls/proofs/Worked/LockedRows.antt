use Rattle.heap_calls.proofs.Cited.{◌≡◌, true, false, [], ◌∷◌, replicate, refl, Some, None, Flags, Free, Masters, Relocatable, no_flags}
use Rattle.heap_calls.proofs.Cited.{State, Handle, Plain, h_unlock, move_h_hi, dispose_handle, h_set_state, locked_place, releases}
use Rattle.heap_calls.proofs.Cited.{HSetState, answer_made}
use Rattle.heap_calls.specs.Rows as rows

-- The place of a locked block, on a small zone.

abbrev locked : Flags
locked = record { locked = true; purgeable = false }

-- handle 0 has an unlocked block of 8 bytes, handle 1 a locked one above 64 Free bytes
abbrev heap : State
heap = record {
  zone = Masters ∷ Relocatable 0 no_flags (replicate 8 0) ∷ Free 64 ∷ Relocatable 1 locked (replicate 8 0) ∷ Free 64
      ∷ [];
  names = Handle Plain ∷ Handle Plain ∷ [];
}

unlocked-none : locked_place 0 heap.zone ≡ None
unlocked-none = refl

locked-here : locked_place 1 heap.zone ≡ Some 368
locked-here = refl

-- it grows where it is
locked-grows : locked_place 1 (answer_made (rows.set_handle_size (Some 1) 40) heap).1.zone ≡ Some 368
locked-grows = refl

-- it isn't moved to the top
locked-not_moved : locked_place 1 (move_h_hi (Some 1) heap).1.zone ≡ Some 368
locked-not_moved = refl

-- what is below it goes
locked-alone : locked_place 1 (dispose_handle (Some 0) heap).1.zone ≡ Some 368
locked-alone = refl

-- it has no place once it is unlocked
locked-no_more : locked_place 1 (h_unlock (Some 1) heap).1.zone ≡ None
locked-no_more = refl

-- flags with the lock leave it, and flags without it release it
locked-flags : locked_place 1 (h_set_state (Some 1) 192 heap).1.zone ≡ Some 368
locked-flags = refl

unlocked-flags : locked_place 1 (h_set_state (Some 1) 96 heap).1.zone ≡ None
unlocked-flags = refl

flags-keep : releases 1 (HSetState (Some 1) 192) ≡ false
flags-keep = refl

flags-release : releases 1 (HSetState (Some 1) 96) ≡ true
flags-release = refl
