use Rattle.heap_calls.proofs.Cited.{◌≡◌, true, false, [], ◌∷◌, refl, Some, None, LOCKED, Flags, Block, Free, Masters, Nonrelocatable}
use Rattle.heap_calls.proofs.Cited.{Relocatable, no_flags, State, Handle, Plain, Pointer, gone_unless, purges_made}
use Rattle.heap_calls.specs.Rows as rows

-- What is purged where a block gets another size, by the definitions alone.

abbrev purgeable : Flags
purgeable = record { locked = false; purgeable = true }

abbrev locked : Flags
locked = record { locked = true; purgeable = false }

-- a block between two that may be purged, each in a run of its own; 16 Free bytes are above the block
abbrev around : Block → State
around b = record {
  zone = Relocatable 1 purgeable (7 ∷ []) ∷ Masters ∷ b ∷ Free 16 ∷ Relocatable 2 purgeable (8 ∷ 9 ∷ []) ∷ [];
  names = Handle Plain ∷ Handle Plain ∷ Handle Plain ∷ [];
}

abbrev free_to_move : State
free_to_move = around (Relocatable 0 no_flags (5 ∷ []))

abbrev fixed : State
fixed = around (Relocatable 0 locked (5 ∷ []))

a_block_is_cut : purges_made (rows.set_handle_size (Some 0) 0) free_to_move ≡ []
a_block_is_cut = refl

the_free_block_above_serves : purges_made (rows.set_handle_size (Some 0) 20) free_to_move ≡ []
the_free_block_above_serves = refl

-- the lowest goes first, also where it doesn't help
all_below_go_first : purges_made (rows.set_handle_size (Some 0) 40) free_to_move ≡ (1, 7 ∷ []) ∷ (2, 8 ∷ 9 ∷ []) ∷ []
all_below_go_first = refl

no_purges_serve : purges_made (rows.set_handle_size (Some 0) 100) free_to_move ≡ []
no_purges_serve = refl

-- a locked block only takes of the run above it
only_the_run_above : purges_made (rows.set_handle_size (Some 0) 40) fixed ≡ (2, 8 ∷ 9 ∷ []) ∷ []
only_the_run_above = refl

-- and so does a pointer's block
abbrev pointed : State
pointed = record { zone = (around (Nonrelocatable 0 (5 ∷ []))).zone; names = Pointer ∷ Handle Plain ∷ Handle Plain ∷ [] }

above_a_pointer : purges_made (rows.set_pointer_size (Some 0) 40) pointed ≡ (2, 8 ∷ 9 ∷ []) ∷ []
above_a_pointer = refl

not_a_pointer : purges_made (rows.set_pointer_size (Some 1) 40) pointed ≡ []
not_a_pointer = refl

-- appended bytes: the block that they come from is not purged for them
abbrev tight : State
tight = record {
  zone = Relocatable 1 purgeable (7 ∷ []) ∷ Masters ∷ Relocatable 0 no_flags [] ∷ Relocatable 2 purgeable (8 ∷ 9 ∷ [])
      ∷ [];
  names = Handle Plain ∷ Handle Plain ∷ Handle Plain ∷ [];
}

appended_from_above : purges_made (rows.hand_and_hand (Some 2) (Some 0)) tight ≡ (1, 7 ∷ []) ∷ []
appended_from_above = refl

appended_from_below : purges_made (rows.hand_and_hand (Some 1) (Some 0)) tight ≡ (2, 8 ∷ 9 ∷ []) ∷ []
appended_from_below = refl

appended_bytes : purges_made (rows.pointer_and_hand (Some 0) (3 ∷ [])) tight ≡ (1, 7 ∷ []) ∷ []
appended_bytes = refl

appended_to_no_handle : purges_made (rows.hand_and_hand (Some 1) None) tight ≡ []
appended_to_no_handle = refl

-- a call that is barred purges nothing
barred : gone_unless (Some LOCKED) (purges_made (rows.pointer_and_hand (Some 0) (3 ∷ [])) tight) ≡ []
barred = refl
