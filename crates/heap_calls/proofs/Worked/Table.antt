use Rattle.heap_calls.proofs.Cited.{◌≡◌, ℕ, List, [], ◌∷◌, ◌++◌, replicate, refl, Some, Ok, Err, State, fresh_heap, Answer, dispose_handle}
use Rattle.heap_calls.proofs.Cited.{get_handle_size, show, free_mem, max_block, compact_mem, put, h_lock, h_unlock, move_h_hi, h_lock_hi}
use Rattle.heap_calls.proofs.Cited.{dispose_pointer, get_pointer_size, show_pointer, put_pointer, place_of, h_purge, h_no_purge}
use Rattle.heap_calls.proofs.Cited.{h_get_state, h_set_state, empty_handle, purge_mem, purge_space, max_mem, answer_made}
use Rattle.std.specs.Prelude.{ℤ, pos, negsuc, suc}
use Rattle.heap_calls.specs.Rows as rows

-- The worked examples of the table, by the definitions alone.

-- a line of a script: what it answers, as a code without its sign and the values, and the heap after it
abbrev TableLine : Type 0
TableLine = State → List ℕ × State

abbrev told : {T : Type 0} → (T → List ℕ) → Answer T → List ℕ × State
told values (Ok v, s) = (0 ∷ values v, s)
told values (Err code, s) = (code_of code.0 ∷ [], s)
  where
    code_of : ℤ → ℕ
    code_of (pos n) = n
    code_of (negsuc n) = suc n

abbrev run : List TableLine → State → List (List ℕ)
run [] s = []
run (line ∷ lines) s = (line s).0 ∷ run lines (line s).1

abbrev done : Answer (Unit {0}) → List ℕ × State
done answer = told (λ v. []) answer

abbrev number : Answer ℕ → List ℕ × State
number answer = told (λ v. v ∷ []) answer

abbrev given : Answer ℕ → List ℕ × State
given answer = told (λ v. []) answer

abbrev new_handle_of : ℕ → TableLine
new_handle_of n s = given (answer_made (rows.new_handle n) s)

abbrev new_empty : TableLine
new_empty s = given (answer_made rows.new_empty_handle s)

abbrev new_pointer_of : ℕ → TableLine
new_pointer_of n s = given (answer_made (rows.new_pointer n) s)

abbrev copies : ℕ → TableLine
copies h s = given (answer_made (rows.hand_to_hand (Some h)) s)

abbrev disposes : ℕ → TableLine
disposes h s = done (dispose_handle (Some h) s)

abbrev disposes_pointer : ℕ → TableLine
disposes_pointer h s = done (dispose_pointer (Some h) s)

abbrev size_is : ℕ → TableLine
size_is h s = number (get_handle_size (Some h) s)

abbrev pointer_size_is : ℕ → TableLine
pointer_size_is h s = number (get_pointer_size (Some h) s)

abbrev resizes : ℕ → ℕ → TableLine
resizes h n s = done (answer_made (rows.set_handle_size (Some h) n) s)

abbrev resizes_pointer : ℕ → ℕ → TableLine
resizes_pointer h n s = done (answer_made (rows.set_pointer_size (Some h) n) s)

abbrev reallocates : ℕ → ℕ → TableLine
reallocates h n s = done (answer_made (rows.reallocate_handle (Some h) n) s)

abbrev empties : ℕ → TableLine
empties h s = done (empty_handle (Some h) s)

abbrev locks : ℕ → TableLine
locks h s = done (h_lock (Some h) s)

abbrev unlocks : ℕ → TableLine
unlocks h s = done (h_unlock (Some h) s)

abbrev may_go : ℕ → TableLine
may_go h s = done (h_purge (Some h) s)

abbrev may_stay : ℕ → TableLine
may_stay h s = done (h_no_purge (Some h) s)

abbrev state_is : ℕ → TableLine
state_is h s = number (h_get_state (Some h) s)

abbrev sets_state : ℕ → ℕ → TableLine
sets_state h n s = done (h_set_state (Some h) n s)

abbrev goes_high : ℕ → TableLine
goes_high h s = done (move_h_hi (Some h) s)

abbrev goes_high_locked : ℕ → TableLine
goes_high_locked h s = done (h_lock_hi (Some h) s)

abbrev joins : ℕ → ℕ → TableLine
joins h n s = done (answer_made (rows.hand_and_hand (Some h) (Some n)) s)

abbrev appends : ℕ → List ℕ → TableLine
appends h x s = done (answer_made (rows.pointer_and_hand (Some h) x) s)

abbrev frees : TableLine
frees s = number (free_mem s)

abbrev most : TableLine
most s = number (max_block s)

abbrev space : TableLine
space s = told (λ v. v.0 ∷ v.1 ∷ []) (purge_space s)

abbrev compacts : ℕ → TableLine
compacts n s = number (compact_mem n s)

abbrev purges : ℕ → TableLine
purges n s = done (purge_mem n s)

abbrev compacts_all : TableLine
compacts_all s = number (max_mem s)

abbrev reserves : ℕ → TableLine
reserves n s = done (answer_made (rows.reserve_mem n) s)

abbrev masters : TableLine
masters s = done (answer_made rows.more_masters s)

abbrev writes : ℕ → ℕ → List ℕ → TableLine
writes h n x s = done (put (Some h) n x s)

abbrev writes_pointer : ℕ → ℕ → List ℕ → TableLine
writes_pointer h n x s = done (put_pointer (Some h) n x s)

abbrev shows : ℕ → TableLine
shows h s = told (λ v. v) (show (Some h) s)

abbrev shows_pointer : ℕ → TableLine
shows_pointer h s = told (λ v. v) (show_pointer (Some h) s)

abbrev where_is : ℕ → TableLine
where_is h s = number (place_of (Some h) s)

-- a b c; b goes; d needs 400, for which c moves down
three_blocks_and_compaction : run (new_handle_of 100 ∷ new_handle_of 100 ∷ new_handle_of 100 ∷ where_is 0 ∷ where_is 1
    ∷ where_is 2 ∷ writes 2 0 (120 ∷ 121 ∷ 122 ∷ []) ∷ disposes 1 ∷ new_handle_of 400 ∷ where_is 3 ∷ where_is 2
    ∷ shows 2 ∷ []) (fresh_heap 1024)
    ≡ (0 ∷ []) ∷ (0 ∷ []) ∷ (0 ∷ []) ∷ (0 ∷ 288 ∷ []) ∷ (0 ∷ 416 ∷ []) ∷ (0 ∷ 544 ∷ []) ∷ (0 ∷ []) ∷ (0 ∷ []) ∷ (0 ∷ [])
    ∷ (0 ∷ 544 ∷ []) ∷ (0 ∷ 416 ∷ []) ∷ (0 ∷ 120 ∷ 121 ∷ 122 ∷ replicate 97 0) ∷ []
three_blocks_and_compaction = refl

-- the same with c locked
compaction_stops_at_a_locked_block : run (new_handle_of 100 ∷ new_handle_of 100 ∷ new_handle_of 100 ∷ disposes 1
    ∷ locks 2 ∷ new_handle_of 400 ∷ where_is 2 ∷ []) (fresh_heap 1024)
    ≡ (0 ∷ []) ∷ (0 ∷ []) ∷ (0 ∷ []) ∷ (0 ∷ []) ∷ (0 ∷ []) ∷ (108 ∷ []) ∷ (0 ∷ 544 ∷ []) ∷ []
compaction_stops_at_a_locked_block = refl

-- a grows into a place of its own, then as the last of its run
growing_a_block : run (new_handle_of 100 ∷ new_handle_of 100 ∷ writes 0 0 (65 ∷ []) ∷ resizes 0 300 ∷ where_is 0
    ∷ resizes 0 600 ∷ where_is 0 ∷ where_is 1 ∷ frees ∷ resizes 0 608 ∷ resizes 0 609 ∷ shows 0 ∷ []) (fresh_heap 1024)
    ≡ (0 ∷ []) ∷ (0 ∷ []) ∷ (0 ∷ []) ∷ (0 ∷ []) ∷ (0 ∷ 544 ∷ []) ∷ (0 ∷ []) ∷ (0 ∷ 416 ∷ []) ∷ (0 ∷ 288 ∷ [])
    ∷ (0 ∷ 0 ∷ []) ∷ (0 ∷ []) ∷ (108 ∷ []) ∷ (0 ∷ 65 ∷ replicate 607 0) ∷ []
growing_a_block = refl

-- a locked block grows where it stands, by moving what follows it
a_locked_block_grows : run (new_handle_of 100 ∷ new_handle_of 100 ∷ locks 0 ∷ resizes 0 300 ∷ where_is 0 ∷ where_is 1
    ∷ frees ∷ []) (fresh_heap 1024)
    ≡ (0 ∷ []) ∷ (0 ∷ []) ∷ (0 ∷ []) ∷ (0 ∷ []) ∷ (0 ∷ 288 ∷ []) ∷ (0 ∷ 608 ∷ []) ∷ (0 ∷ 304 ∷ []) ∷ []
a_locked_block_grows = refl

-- a purgeable block is emptied where there is no other room
a_purgeable_block_goes : run (new_handle_of 300 ∷ new_handle_of 300 ∷ may_go 0 ∷ new_handle_of 200 ∷ where_is 2
    ∷ shows 0 ∷ []) (fresh_heap 1024)
    ≡ (0 ∷ []) ∷ (0 ∷ []) ∷ (0 ∷ []) ∷ (0 ∷ []) ∷ (0 ∷ 288 ∷ []) ∷ (109 ∷ []) ∷ []
a_purgeable_block_goes = refl

-- a locked one is not
a_locked_block_stays : run (new_handle_of 300 ∷ new_handle_of 300 ∷ may_go 0 ∷ locks 0 ∷ new_handle_of 200 ∷ size_is 0
    ∷ []) (fresh_heap 1024)
    ≡ (0 ∷ []) ∷ (0 ∷ []) ∷ (0 ∷ []) ∷ (0 ∷ []) ∷ (108 ∷ []) ∷ (0 ∷ 300 ∷ []) ∷ []
a_locked_block_stays = refl

-- nor one that is unpurgeable again
an_unpurgeable_block_stays : run (new_handle_of 300 ∷ new_handle_of 300 ∷ may_go 0 ∷ may_stay 0 ∷ new_handle_of 200
    ∷ size_is 0 ∷ []) (fresh_heap 1024)
    ≡ (0 ∷ []) ∷ (0 ∷ []) ∷ (0 ∷ []) ∷ (0 ∷ []) ∷ (108 ∷ []) ∷ (0 ∷ 300 ∷ []) ∷ []
an_unpurgeable_block_stays = refl

-- a pointer goes to the base of a run
a_pointer_goes_low : run (new_handle_of 100 ∷ new_handle_of 100 ∷ goes_high 0 ∷ where_is 0 ∷ where_is 1 ∷ locks 0
    ∷ new_pointer_of 32 ∷ where_is 2 ∷ where_is 1 ∷ frees ∷ []) (fresh_heap 1024)
    ≡ (0 ∷ []) ∷ (0 ∷ []) ∷ (0 ∷ []) ∷ (0 ∷ 912 ∷ []) ∷ (0 ∷ 288 ∷ []) ∷ (0 ∷ []) ∷ (0 ∷ []) ∷ (0 ∷ 288 ∷ [])
    ∷ (0 ∷ 336 ∷ []) ∷ (0 ∷ 448 ∷ []) ∷ []
a_pointer_goes_low = refl

-- bytes are copied and joined, and flags set
bytes_are_copied_and_joined : run (new_handle_of 3 ∷ writes 0 0 (97 ∷ 98 ∷ 99 ∷ []) ∷ copies 0 ∷ joins 0 1
    ∷ appends 1 (100 ∷ 101 ∷ []) ∷ shows 1 ∷ new_empty ∷ size_is 2 ∷ reallocates 2 5 ∷ shows 2 ∷ may_go 2 ∷ state_is 2
    ∷ empties 2 ∷ empties 2 ∷ state_is 2 ∷ locks 0 ∷ empties 0 ∷ goes_high 0 ∷ goes_high_locked 0 ∷ sets_state 0 64
    ∷ space ∷ disposes 0 ∷ locks 0 ∷ []) (fresh_heap 1024)
    ≡ (0 ∷ []) ∷ (0 ∷ []) ∷ (0 ∷ []) ∷ (0 ∷ []) ∷ (0 ∷ []) ∷ (0 ∷ 97 ∷ 98 ∷ 99 ∷ 97 ∷ 98 ∷ 99 ∷ 100 ∷ 101 ∷ [])
    ∷ (0 ∷ []) ∷ (109 ∷ []) ∷ (0 ∷ []) ∷ (0 ∷ 0 ∷ 0 ∷ 0 ∷ 0 ∷ 0 ∷ []) ∷ (0 ∷ []) ∷ (0 ∷ 64 ∷ []) ∷ (0 ∷ [])
    ∷ (0 ∷ []) ∷ (109 ∷ []) ∷ (0 ∷ []) ∷ (112 ∷ []) ∷ (117 ∷ []) ∷ (117 ∷ []) ∷ (0 ∷ []) ∷ (0 ∷ 720 ∷ 672 ∷ [])
    ∷ (0 ∷ []) ∷ (111 ∷ []) ∷ []
bytes_are_copied_and_joined = refl

-- pointers grow where they stand, and room is reserved below
pointers_grow_and_room_is_reserved : run (new_handle_of 100 ∷ new_pointer_of 20 ∷ where_is 1 ∷ where_is 0
    ∷ writes_pointer 1 0 (81 ∷ []) ∷ resizes_pointer 1 40 ∷ where_is 0 ∷ shows_pointer 1 ∷ reserves 200 ∷ where_is 0
    ∷ frees ∷ most ∷ new_pointer_of 200 ∷ where_is 2 ∷ masters ∷ where_is 0 ∷ frees ∷ disposes_pointer 2
    ∷ pointer_size_is 1 ∷ compacts 300 ∷ compacts_all ∷ disposes_pointer 0 ∷ []) (fresh_heap 1024)
    ≡ (0 ∷ []) ∷ (0 ∷ []) ∷ (0 ∷ 288 ∷ []) ∷ (0 ∷ 336 ∷ []) ∷ (0 ∷ []) ∷ (0 ∷ []) ∷ (0 ∷ 352 ∷ [])
    ∷ (0 ∷ 81 ∷ 0 ∷ 0 ∷ 0 ∷ 0 ∷ 0 ∷ 0 ∷ 0 ∷ replicate 32 0) ∷ (0 ∷ []) ∷ (0 ∷ 576 ∷ []) ∷ (0 ∷ 560 ∷ [])
    ∷ (0 ∷ 544 ∷ []) ∷ (0 ∷ []) ∷ (0 ∷ 352 ∷ []) ∷ (0 ∷ []) ∷ (0 ∷ 848 ∷ []) ∷ (0 ∷ 64 ∷ []) ∷ (0 ∷ [])
    ∷ (0 ∷ 40 ∷ []) ∷ (0 ∷ 208 ∷ []) ∷ (0 ∷ 208 ∷ []) ∷ (111 ∷ []) ∷ []
pointers_grow_and_room_is_reserved = refl

-- the lowest purgeable block goes first, and a search with no room empties nothing
lowest_purgeable_first : run (new_handle_of 100 ∷ new_handle_of 100 ∷ new_handle_of 400 ∷ may_go 0 ∷ may_go 1
    ∷ new_handle_of 100 ∷ where_is 3 ∷ shows 0 ∷ size_is 1 ∷ new_handle_of 737 ∷ size_is 1 ∷ resizes 1 300 ∷ size_is 1
    ∷ []) (fresh_heap 1024)
    ≡ (0 ∷ []) ∷ (0 ∷ []) ∷ (0 ∷ []) ∷ (0 ∷ []) ∷ (0 ∷ []) ∷ (0 ∷ []) ∷ (0 ∷ 288 ∷ []) ∷ (109 ∷ []) ∷ (0 ∷ 100 ∷ [])
    ∷ (108 ∷ []) ∷ (0 ∷ 100 ∷ []) ∷ (108 ∷ []) ∷ (0 ∷ 100 ∷ []) ∷ []
lowest_purgeable_first = refl

-- where all slots are used a Masters block is made
a_masters_block_is_added : run (replicate 64 (new_handle_of 0)
    ++ where_is 0 ∷ frees ∷ new_handle_of 0 ∷ where_is 0 ∷ where_is 64 ∷ frees ∷ []) (fresh_heap 4096)
    ≡ replicate 64 (0 ∷ []) ++ (0 ∷ 288 ∷ []) ∷ (0 ∷ 2800 ∷ []) ∷ (0 ∷ []) ∷ (0 ∷ 560 ∷ []) ∷ (0 ∷ 1584 ∷ [])
    ∷ (0 ∷ 2512 ∷ []) ∷ []
a_masters_block_is_added = refl

-- and stays also where the block then finds no room
a_masters_block_stays : run (replicate 64 (new_handle_of 0) ++ new_handle_of 600 ∷ where_is 0 ∷ frees
    ∷ new_handle_of 464 ∷ frees ∷ []) (fresh_heap 2048)
    ≡ replicate 64 (0 ∷ []) ++ (108 ∷ []) ∷ (0 ∷ 560 ∷ []) ∷ (0 ∷ 480 ∷ []) ∷ (0 ∷ []) ∷ (0 ∷ 0 ∷ []) ∷ []
a_masters_block_stays = refl
