use Rattle.heap_calls.proofs.Cited.{◌≡◌, true, false, [], ◌∷◌, refl, Some, Flags, Free, Masters, Relocatable, no_flags, State, Handle}
use Rattle.heap_calls.proofs.Cited.{Plain, place_lowers, compact_mem_moves, max_mem_moves, moves_made}
use Rattle.heap_calls.specs.Rows as rows

-- How many blocks packing moves down, by the definitions alone.

-- a block of no bytes, which takes 16, between 32 Free bytes and 48
abbrev between : State
between = record { zone = Masters ∷ Free 32 ∷ Relocatable 0 no_flags [] ∷ Free 48 ∷ []; names = Handle Plain ∷ [] }

-- a Free block serves, or the run is packed, or there is no room
a_free_block_serves : place_lowers 48 between.zone ≡ 0
a_free_block_serves = refl

a_run_is_packed : place_lowers 64 between.zone ≡ 1
a_run_is_packed = refl

no_run_has_room : place_lowers 96 between.zone ≡ 0
no_run_has_room = refl

a_block_that_fits_moves_none : moves_made (rows.new_handle 32) between ≡ 0
a_block_that_fits_moves_none = refl

a_block_for_a_packed_run_moves_one : moves_made (rows.new_handle 40) between ≡ 1
a_block_for_a_packed_run_moves_one = refl

a_copy_moves_none : moves_made (rows.hand_to_hand (Some 0)) between ≡ 0
a_copy_moves_none = refl

-- it grows into the Free block above it, at a place of its own, as the last of its run, or not at all
grows_into_the_free_block_above : moves_made (rows.set_handle_size (Some 0) 30) between ≡ 0
grows_into_the_free_block_above = refl

grows_at_a_place_of_its_own : moves_made (rows.set_handle_size (Some 0) 60) between ≡ 1
grows_at_a_place_of_its_own = refl

grows_as_the_last_of_its_run : moves_made (rows.set_handle_size (Some 0) 75) between ≡ 1
grows_as_the_last_of_its_run = refl

cannot_grow : moves_made (rows.set_handle_size (Some 0) 81) between ≡ 0
cannot_grow = refl

appended_bytes_fit_above : moves_made (rows.pointer_and_hand (Some 0) (1 ∷ 2 ∷ 3 ∷ [])) between ≡ 0
appended_bytes_fit_above = refl

appended_to_itself : moves_made (rows.hand_and_hand (Some 0) (Some 0)) between ≡ 0
appended_to_itself = refl

-- a new block for it: its old one counts as Free, so that all 96 bytes are
renewed_where_its_old_block_is_free : moves_made (rows.reallocate_handle (Some 0) 80) between ≡ 0
renewed_where_its_old_block_is_free = refl

-- a run is packed only where no Free block serves
compaction_where_there_is_room : compact_mem_moves 32 between ≡ 0
compaction_where_there_is_room = refl

compaction_packs_the_run : compact_mem_moves 33 between ≡ 1
compaction_packs_the_run = refl

all_runs_are_packed : max_mem_moves between ≡ 1
all_runs_are_packed = refl

-- a block that may be purged, and one above it, which then has Free bytes below it
abbrev above_purgeable : State
above_purgeable = record {
  zone = Masters ∷ Relocatable 0 purgeable [] ∷ Relocatable 1 no_flags [] ∷ Free 48
      ∷ [];
  names = Handle Plain ∷ Handle Plain ∷ [];
}
  where
    purgeable : Flags
    purgeable = record { locked = false; purgeable = true }

compaction_purges_nothing : compact_mem_moves 100 above_purgeable ≡ 0
compaction_purges_nothing = refl

what_is_purged_lets_the_next_fall : max_mem_moves above_purgeable ≡ 1
what_is_purged_lets_the_next_fall = refl

-- for a new handle it is emptied, and then the run is packed
purged_then_packed : moves_made (rows.new_handle 40) above_purgeable ≡ 1
purged_then_packed = refl
