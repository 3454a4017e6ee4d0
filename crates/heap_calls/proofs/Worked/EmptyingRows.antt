use Rattle.heap_calls.proofs.Cited.{◌≡◌, true, false, [], ◌∷◌, replicate, refl, Flags, Free, Masters, Relocatable, no_flags, is_relocatable}
use Rattle.heap_calls.proofs.Cited.{has, State, Handle, Plain, purge_mem, has_purgeable, answer_made}
use Rattle.heap_calls.specs.Rows as rows

-- Blocks that may be purged, on a small zone.

abbrev purgeable : Flags
purgeable = record { locked = false; purgeable = true }

-- the blocks of handles 0 and 1 stand below 16 Free bytes; that of 0 may be purged
abbrev heap : State
heap = record {
  zone = Masters ∷ Relocatable 0 purgeable (replicate 8 0) ∷ Relocatable 1 no_flags (replicate 8 0) ∷ Free 16 ∷ [];
  names = Handle Plain ∷ Handle Plain ∷ [];
}

may-go : has_purgeable 0 heap.zone ≡ true
may-go = refl

may-stay : has_purgeable 1 heap.zone ≡ false
may-stay = refl

-- it goes for a new block, and the other stays
goes-for-new : has (is_relocatable 0) (answer_made (rows.new_handle 4) heap).1.zone ≡ false
goes-for-new = refl

stays-for-new : has (is_relocatable 1) (answer_made (rows.new_handle 4) heap).1.zone ≡ true
stays-for-new = refl

-- and so it does where so much isn't to be had
stays-for-much : has (is_relocatable 1) (purge_mem 1000 heap).1.zone ≡ true
stays-for-much = refl
