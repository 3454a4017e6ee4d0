-- The names that the proofs of this library cite of others and of its specs, passed on from one place. Declares nothing.
pub use Rattle.block_store.proofs.Content.Resizing.{is_relocatable-resized, length-resized, size-resized}
pub use Rattle.block_store.proofs.Nonrelocatable.Counts.{has-counts, is_nonrelocatable-content, is_nonrelocatable-flags}
pub use Rattle.block_store.proofs.Nonrelocatable.Counts.{is_nonrelocatable-resized, not_nonrelocatable-other}
pub use Rattle.block_store.proofs.Nonrelocatable.Counts.{not_nonrelocatable-relocatable, not_nonrelocatable-room}
pub use Rattle.block_store.proofs.Nonrelocatable.Placing.{spot_at-below}
pub use Rattle.block_store.proofs.Plain.Counters.{counted-none}
pub use Rattle.block_store.proofs.Plain.Options.{map-none, some_and, the_some}
pub use Rattle.block_store.proofs.Plain.Trials.{fewest-either, fewest-last, least_or_last-at, least_or_last-fails, least_or_last-le}
pub use Rattle.block_store.proofs.Plain.Trials.{least_or_last-none}
pub use Rattle.block_store.proofs.Purged.Purges.{sizes-lowest_purged}
pub use Rattle.block_store.proofs.Purged.Rising.{purge-all}
pub use Rattle.block_store.proofs.Purged.Sparing.{filter-room_base, filter-room_place, filter-tidy, here-same, lowest, spot-lowest}
pub use Rattle.block_store.proofs.Regroup.AllLowered.{settled_lowered, settled_none_rises}
pub use Rattle.block_store.proofs.Regroup.HavingRoom.{place-room, room-settled}
pub use Rattle.block_store.proofs.Regroup.MostRoom.{most-placed, no_more-placed, place-some, placed-is, room-largest}
pub use Rattle.block_store.proofs.Regroup.NextRuns.{first-run, next-higher, next-settled, run-edge, sizes-settled}
pub use Rattle.block_store.proofs.Regroup.Packed.{once-below, tidy-below}
pub use Rattle.block_store.proofs.Regroup.Parts.{AreParts, in-parts}
pub use Rattle.block_store.proofs.Regroup.Regrouping.{all-high, apart-high, apart-settle, put_run, run_at-change, tidy-change}
pub use Rattle.block_store.proofs.Regroup.RoomAbove.{above-run}
pub use Rattle.block_store.proofs.Regroup.RunLists.{AreLoose, run_at-parts, run_spot-parts, segments-loose}
pub use Rattle.block_store.proofs.Regroup.RunSpots.{barrier-size, run_spot-passes}
pub use Rattle.block_store.proofs.Regroup.Settling.{has-spot, keeps-next, moves-end, moves-next, next-past, next-within, none-next}
pub use Rattle.block_store.proofs.Regroup.Settling.{nth-settled, room-found, runs-few, settled-enough, settled-next, settled_spot, zone-end}
pub use Rattle.block_store.proofs.Regroup.Still.{still-settled}
pub use Rattle.block_store.proofs.Renamed.GrowRenaming.{resized-rename}
pub use Rattle.block_store.proofs.Renamed.Renaming.{change_run-rename, filter-rename, free-rename, free_of-rename, freed-rename, has-rename}
pub use Rattle.block_store.proofs.Renamed.Renaming.{has_free-rename, is_mover-rename, is_purgeable-rename, is_room-rename, joined-rename}
pub use Rattle.block_store.proofs.Renamed.Renaming.{others-rename, purge-rename, rename_stretch, room-rename, segments-rename}
pub use Rattle.block_store.proofs.Renamed.Renaming.{settle-rename, size-rename, spot-rename, tidy-rename, total-rename}
pub use Rattle.block_store.proofs.Walks.Telling.{size-seen}
pub use Rattle.block_store.proofs.Zone.Absence.{none-filter, none-free, none-lowest_purged, none-settled}
pub use Rattle.block_store.proofs.Zone.Aligned.{spot_at-is}
pub use Rattle.block_store.proofs.Zone.Alike.{Alike, alike-append, alike-based, alike-changed, alike-compacted, alike-cons, alike-freed}
pub use Rattle.block_store.proofs.Zone.Alike.{alike-high, alike-purged, alike-put, alike-refl, alike-room, alike-then, alike-tidy, locks}
pub use Rattle.block_store.proofs.Zone.Alike.{one-run, stands, stands-is, stands-none}
pub use Rattle.block_store.proofs.Zone.Apart.{Apart, apart-above, apart-next, apart-size, apart-tidied, apart-tidy, barrier-alone}
pub use Rattle.block_store.proofs.Zone.Apart.{tidy-apart, tidy-tidy}
pub use Rattle.block_store.proofs.Zone.Edges.{edge-behind, used-some, used-there}
pub use Rattle.block_store.proofs.Zone.Keeping.{SeesNoFree, apart, base-le, based-le, changed-le, counts-free, freed-is, freely, high-le}
pub use Rattle.block_store.proofs.Zone.Keeping.{purged-le, put-le, room-le, settled-le, swapped-le, three, tidied, unless, unless-le}
pub use Rattle.block_store.proofs.Zone.Keeping.{unless-none}
pub use Rattle.block_store.proofs.Zone.Leading.{count-none, is_relocatable-content, none-count}
pub use Rattle.block_store.proofs.Zone.Listing.{size-freed}
pub use Rattle.block_store.proofs.Zone.Parted.{spot-end, spot_at-parted, tidy-parted}
pub use Rattle.block_store.proofs.Zone.Passing.{filter-none, has-count, none-append}
pub use Rattle.block_store.proofs.Zone.Spots.{length-written}
pub use Rattle.block_store.proofs.Zone.Surviving.{base-all, based-all, changed-all, high-all, made-all, movers-all, purged-all, put-all}
pub use Rattle.block_store.proofs.Zone.Surviving.{settled-all}
pub use Rattle.block_store.proofs.Zone.Tidy.{add-joined, has-freed, has-released, has-tidy, rename-unless, rename_nonrelocatable-unless}
pub use Rattle.block_store.proofs.Zone.Tidy.{spot-is, spot-passes, total-tidy}
pub use Rattle.block_store.proofs.Zone.Totals.{free_sum-free, total-append, total-le}
pub use Rattle.block_store.proofs.Zone.Views.{change_run-some, grow-some, map-some, or-some, room-some, taken-some, taken_low-some}
pub use Rattle.block_store.proofs.Zone.Zones.{joined-is, joined-segments}
pub use Rattle.block_store.specs.Block.{Block, Free, Masters, Nonrelocatable, Relocatable, add, content_of, count, free, free_of, free_sum}
pub use Rattle.block_store.specs.Block.{fresh, is_masters, is_mover, is_nonrelocatable, is_purgeable, is_relocatable, is_room, no_flags}
pub use Rattle.block_store.specs.Block.{rename, rename_block, resized, resized_content, size, sizes, tidy, total, with_content}
pub use Rattle.block_store.specs.Compact.{Placed, beyond, compacted, has_room, largest, largest_free, largest_run, least_or_last}
pub use Rattle.block_store.specs.Compact.{lowered_in_runs, next_run, packed_stretches, runs_settled, settled, settled_runs, stretches}
pub use Rattle.block_store.specs.Fewest.{IsFewest, serves, serves_block, smaller}
pub use Rattle.block_store.specs.Find.{FindsLowest, FindsLowestRun, IsEdge}
pub use Rattle.block_store.specs.Grow.{freed, grow, grow_at, grow_last, grow_mover, grow_nonrelocatable, grow_up, growth, move_away, taken}
pub use Rattle.block_store.specs.Grow.{taken_low}
pub use Rattle.block_store.specs.Inner.NthRun.{FindsRun, nth_run}
pub use Rattle.block_store.specs.Inner.Packing.{Loose}
pub use Rattle.block_store.specs.Inner.Stretch.{is_free, opened_block}
pub use Rattle.block_store.specs.Rest.{IsRest, KeepsSlots, Rest, Site, counted, lowered_in_run, with_moves, with_placed, with_slot}
pub use Rattle.block_store.specs.Room.{Spot, count_of, filled, least, lowest_purged, may_be_purged, place, purge, put_at_base, put_in_place}
pub use Rattle.block_store.specs.Room.{raised, rename_spot, room, spot, spot_at}
pub use Rattle.block_store.specs.Run.{RunSpot, Segments, Stretch, change_run, has, has_free, high, in_run, joined, low, lowest_run, movers}
pub use Rattle.block_store.specs.Run.{others, run_at, run_from, run_raised, run_spot, runs, segments, settle, with_run}
pub use Rattle.block_store.specs.Seen.{moved_away, seen, with_flags}
pub use Rattle.block_store.specs.Slot.{AreSlots, NoSlot, Slot, Unused, Used, is_used, set_slot}
pub use Rattle.block_store.specs.Sparing.{most_purges, opened, purged, spared}
pub use Rattle.block_store.specs.declared.flags.Flags.{Flags}
pub use Rattle.block_store.specs.declared.measures.TheConstants.{GREATEST_ZONE, HEADER_SIZE}
pub use Rattle.block_store.specs.declared.sparing.Seen.{Seen}
pub use Rattle.block_store.specs.declared.sparing.Sparing.{Sparing}
pub use Rattle.block_store.specs.declared.sparing.Sparing.TheVariants.{Freed, Nothing, One, Two}
pub use Rattle.heap_calls.specs.Answer.{Answer, Held, Known, change_flags, code_of, compact_mem, dispose_handle, disposed_of, flagged}
pub use Rattle.heap_calls.specs.Answer.{for_found, free_mem, get_handle_size, given, h_lock, h_lock_hi, h_unlock, handle_at, held_at}
pub use Rattle.heap_calls.specs.Answer.{hoisted, known_as, look_up, max_block, move_h_hi, moving, munger_nil, nothing, noting, on_block}
pub use Rattle.heap_calls.specs.Answer.{place_in, put, rebuilt, refused, searching, show, silent, without, written_at}
pub use Rattle.heap_calls.specs.Busy.{NoneGuarded, Places, bar, barred, both_barred, busied, change_barred, eased, either_barred}
pub use Rattle.heap_calls.specs.Busy.{either_bars, either_change_barred, either_guards, guard, idle, is_busy, keep_code, known_bars}
pub use Rattle.heap_calls.specs.Busy.{known_guards, move_barred, next_barred, pointer_barred, pointer_bars, unless_silent, with_busy}
pub use Rattle.heap_calls.specs.Copying.{copying_zone, written_in}
pub use Rattle.heap_calls.specs.Counts.{CountsMoves, CountsSearches}
pub use Rattle.heap_calls.specs.Emptying.{PurgesOnlyPurgeable, has_purgeable, takes_block}
pub use Rattle.heap_calls.specs.FewSearches.{SearchesFew}
pub use Rattle.heap_calls.specs.Gone.{Gone, Hears, IsIdle, Rests, Tells, TellsNothing, copying_gone, gone, gone_of, gone_unless}
pub use Rattle.heap_calls.specs.Gone.{purge_mem_gone, slot_gone, told_blocks}
pub use Rattle.heap_calls.specs.History.{after_calls}
pub use Rattle.heap_calls.specs.Inner.Appending.{bytes_of, length_of, seek_longer, size_for}
pub use Rattle.heap_calls.specs.Inner.Filling.{IsNext, IsReplaced, IsSizeOf, owned_by, wanted_as}
pub use Rattle.heap_calls.specs.Inner.Given.{FindsBlock, IsAnswer, KeepsMoves, KeepsNames, found, seen_flags, seen_in_run, seen_mover}
pub use Rattle.heap_calls.specs.Inner.Given.{slot_at, slot_of}
pub use Rattle.heap_calls.specs.Inner.Growing.{CanGrowUp, FindsGrowth, GrewUp, IsToGrow, SameBlocks, Spares, block_of, grown}
pub use Rattle.heap_calls.specs.Inner.GrowingInPlace.{above_taken, pushed_up, room_at, seen_size}
pub use Rattle.heap_calls.specs.Inner.Halting.{Halts}
pub use Rattle.heap_calls.specs.Inner.Least.{IsMost, enough_above}
pub use Rattle.heap_calls.specs.Inner.Loose.{FindsLoose, bits_of, flags_with, loose, loose_at}
pub use Rattle.heap_calls.specs.Inner.Making.{HasRoomAt, MakesRoom, filled_at}
pub use Rattle.heap_calls.specs.Inner.Munging.{HasBytes, exchanged, shifted, then_do}
pub use Rattle.heap_calls.specs.Inner.Naming.{entered, number_of}
pub use Rattle.heap_calls.specs.Inner.NewBlock.{IsFresh, KeepsTaken, MakesBlock, fresh_block, given_back, replaced, replaced_at, seek_block}
pub use Rattle.heap_calls.specs.Inner.NewBlock.{seek_new}
pub use Rattle.heap_calls.specs.Inner.NewPointer.{IsNewPlace, Stands, fresh_nonrelocatable, seek_pointer}
pub use Rattle.heap_calls.specs.Inner.NewSlot.{GainsSlots, HasMore, HasSlot, IsTaken, TakesSlot, seek_unused, some_left, zone_slotted}
pub use Rattle.heap_calls.specs.Inner.Numbered.{Agrees, KeepsNonrelocatable, handle_number, heap_of, leads_to, memory_of, name_of}
pub use Rattle.heap_calls.specs.Inner.Numbered.{no_number, number_from, pointer_number, points_to, role_of, state_of}
pub use Rattle.heap_calls.specs.Inner.Packed.{KeepsAllButPlaced, Packs}
pub use Rattle.heap_calls.specs.Inner.Pointing.{FindsHeld, target, target_at, target_of}
pub use Rattle.heap_calls.specs.Inner.Reaching.{Reaches, sized_reply}
pub use Rattle.heap_calls.specs.Inner.Search.{FindsPlacement, IsAt}
pub use Rattle.heap_calls.specs.Inner.Telling.{IsNumberOf, LeavesSlot, OpensNone, blocks_from, from_spot, gone_from, gone_named}
pub use Rattle.heap_calls.specs.Inner.Telling.{zone_slot_gone}
pub use Rattle.heap_calls.specs.Inner.Went.{Went, at_spot, seek_growth, seek_sized, seek_still, told_along, told_named}
pub use Rattle.heap_calls.specs.Inside.{all_gone, cast, cast_as, guarded_as, has_block, held_high, inside, is_owned, loosened, new_all}
pub use Rattle.heap_calls.specs.Inside.{new_empty, new_empty_inside, new_filled, new_inside, number_if, owned_as, refill, refill_inside}
pub use Rattle.heap_calls.specs.Inside.{released, released_as, resource_role}
pub use Rattle.heap_calls.specs.LastPut.{Holds, put_by}
pub use Rattle.heap_calls.specs.Left.{Stops}
pub use Rattle.heap_calls.specs.Locked.{OneBlockEach, StaysLocked, is_locked, locked_place, releases}
pub use Rattle.heap_calls.specs.Lowering.{CompactCountsLowered, CompactRaisesNone, MaxCountsLowered, MaxRaisesNone}
pub use Rattle.heap_calls.specs.Moves.{all_moves, compact_mem_moves, max_mem_moves}
pub use Rattle.heap_calls.specs.Munging.{Like, Many, Target, begins, behind, first_from, found_at, found_in, munged, occurrence}
pub use Rattle.heap_calls.specs.Owned.{resource_meant, resource_only, resource_role_at}
pub use Rattle.heap_calls.specs.Path.{Cast, NewEmpty, NewFilled, Refill, Release, Step, gone_at, left_zone, put_reads, read_again, read_by}
pub use Rattle.heap_calls.specs.Path.{read_new, reads, refusal, refusal_of, step_disposes, stepped, steps_dispose, walk}
pub use Rattle.heap_calls.specs.Pointers.{block_move, block_named, dispose_pointer, get_pointer_size, handle_from, moved_into, named_block}
pub use Rattle.heap_calls.specs.Pointers.{place_of, pointed, pointed_at, pointer_zone, put_pointer, recover_handle, show_pointer, stands_at}
pub use Rattle.heap_calls.specs.Preloaded.{LeavesUnmade, MadeSome}
pub use Rattle.heap_calls.specs.Purging.{bit, block_bits, blocks_purged, emptied_at, empty_handle, h_get_state, h_no_purge, h_purge}
pub use Rattle.heap_calls.specs.Purging.{h_set_state, is_loose, is_resource, max_mem, purge_mem, purge_space, purgeable, purged_all}
pub use Rattle.heap_calls.specs.Refused.{BarredLeaves, LeavesMasters, RefusedLeaves, code_left, refused_zone, zone_behind}
pub use Rattle.heap_calls.specs.Row.{Bar, Row, answer_of, bar_of, barred_by, gated_row, gone_of_row, left_by, may_purge, moves_of}
pub use Rattle.heap_calls.specs.Row.{notes_code, searches_of, serve}
pub use Rattle.heap_calls.specs.Rows.{Done, answer_made, append, changed, doing, doing_silently, hand_and_hand, hand_to_hand, heap_after}
pub use Rattle.heap_calls.specs.Rows.{moves_made, new_empty_handle, new_handle, new_pointer, next_block, pointer_and_hand}
pub use Rattle.heap_calls.specs.Rows.{pointer_to_x_hand, purged_by, purges_made, reallocate_handle, reply_of, reserve_mem, room_for}
pub use Rattle.heap_calls.specs.Rows.{searches_made, set_handle_size, set_pointer_size, work}
pub use Rattle.heap_calls.specs.Searches.{compact_mem_searches, purge_mem_searches}
pub use Rattle.heap_calls.specs.Serving.{Zeros, seeking, telling, told_as}
pub use Rattle.heap_calls.specs.Shown.{Shows}
pub use Rattle.heap_calls.specs.Slots.{is_unused, slot_made, slotted_zone}
pub use Rattle.heap_calls.specs.Standing.{NextIsNew, StaysNonrelocatable, disposes, pointer_place}
pub use Rattle.heap_calls.specs.State.{CountedMemory, Disposed, Handle, Meaning, Memory, Plain, Pointer, Resource, Role, State}
pub use Rattle.heap_calls.specs.State.{SystemResource, all_slots, fresh_heap, fresh_memory, used_slots, uses_slot}
pub use Rattle.heap_calls.specs.Staying.{CostsAtMostMasters, KeepsBytes, KeepsMasters, LessStaysLater, Parted, RefusedCostsAtMostMasters}
pub use Rattle.heap_calls.specs.Staying.{RefusedKeepsNoMore, StepCostsAtMostMasters, ease, of_masters, staying, staying_of}
pub use Rattle.heap_calls.specs.Table.{Asked, DisposeHandle, DisposePtr, EmptyHandle, HLock, HPurge, HSetState, HandAndHand, MemError}
pub use Rattle.heap_calls.specs.Table.{NewHandle, NewPtr, PurgeMem, Show, answered, gate, gated, gone_in, notes, row, row_moves}
pub use Rattle.heap_calls.specs.Table.{row_searches, served, zone_left}
pub use Rattle.heap_calls.specs.ToldGone.{StepTellsWhatGoes, TellsOfPurgeable, TellsWhatGoes, bytes_in, told_of}
pub use Rattle.heap_calls.specs.declared.anchor.Anchor.{Anchor}
pub use Rattle.heap_calls.specs.declared.anchor.Found.{Found}
pub use Rattle.heap_calls.specs.declared.base.Taken.{Taken}
pub use Rattle.heap_calls.specs.declared.filling.Filling.{Filling}
pub use Rattle.heap_calls.specs.declared.growing.Growth.{Growth}
pub use Rattle.heap_calls.specs.declared.growing_in_place.Grown.{Grown}
pub use Rattle.heap_calls.specs.declared.heap.Heap.TheInside.{Inside}
pub use Rattle.heap_calls.specs.declared.log.Log.{Log}
pub use Rattle.heap_calls.specs.declared.munging.Occurrence.{Occurrence}
pub use Rattle.heap_calls.specs.declared.reaching.Reached.{Reached}
pub use Rattle.heap_calls.specs.declared.refusal.Refusal.{Refusal}
pub use Rattle.heap_calls.specs.declared.refusal.Refusal.TheVariants.{Code, HostMemory}
pub use Rattle.heap_calls.specs.declared.search.Placement.{Placement}
pub use Rattle.heap_calls.specs.declared.search.Room.{Room}
pub use Rattle.mac_words.proofs.Plain.{is_some-map, not_some, on_err}
pub use Rattle.mac_words.specs.Size.{padded, phys}
pub use Rattle.mac_words.specs.Told.{Bytes, Given, Number, Offset, Refused, Told}
pub use Rattle.mac_words.specs.declared.code.OsErr.{OsErr}
pub use Rattle.mac_words.specs.declared.code.TheConstants.OsErr.{LOCKED, MEM_FULL, NIL_HANDLE, NO_ERR, PROFILE, PURGED, WRONG_ZONE}
pub use Rattle.memory_windows.specs.Writes.{written}
pub use Rattle.moves.proofs.Conserved.{PathWeighs, PutsNone, Weighs, conserved, keeps, only-purgeable, put_on, puts-none}
pub use Rattle.moves.proofs.Paths.{Along, along-if, along-later, along-seek, along-slot, along-then, did-append, untouched-then}
pub use Rattle.moves.proofs.Refused.{Refuses, around-refused, fits-refused, seek-refused, size-refused, slot-refused}
pub use Rattle.moves.proofs.Renamed.{Names, PathNames, did-rename}
pub use Rattle.moves.proofs.Resized.{Alone, resized-stays}
pub use Rattle.moves.proofs.Rows.{again-along, again-more, again-most, if-more, if-most, put-there, resized-few, resized-names, seek-few}
pub use Rattle.moves.proofs.Rows.{seek-more, seek-most, size-most, size-new, size-puts, size-weighs}
pub use Rattle.moves.proofs.Searches.{seek-rename, size_at-rename, slot-rename, then-rename}
pub use Rattle.moves.proofs.Steady.{steady}
pub use Rattle.moves.specs.Moves.{Base, Cut, Did, Drop, Extend, Grow, Move, Purge, Push, Put, Search, Write, did, gone_above, gone_by}
pub use Rattle.moves.specs.Moves.{growth_lowers, is_same, last_lowers, lowered_by, lowered_in, lowest_gone, moved, one, place_lowers}
pub use Rattle.moves.specs.Moves.{rename_did, rename_move, rewritten, run_above, searches_by}
pub use Rattle.moves.specs.Seeking.{Sought, around, at_hand, if_fits, no_room, purges_for, rename_sought, seek, seek_in_place, seek_resized}
pub use Rattle.moves.specs.Seeking.{seek_size, seek_slot, sought, then_seek}
pub use Rattle.std.proofs.Common.{Bool, Err, List, None, Ok, OnOk, Option, Result, Some, [], ap, append-nil, append_assoc, arith, cond}
pub use Rattle.std.proofs.Common.{count_by, drop, false, filter, get_or, inl, inr, is_some, length, map, max, nat_le, nat_lt, negsuc, not}
pub use Rattle.std.proofs.Common.{pos, refl, replicate, rules, slice_get, slice_index_or, slice_set, subst, suc, sym, take, true}
pub use Rattle.std.proofs.Common.{vec_capacity, vec_len, zero, ℕ, ℤ, ◌%◌, ◌&&◌, ◌*◌, ◌++◌, ◌+◌, ◌-◌, ◌/◌, ◌<◌, ◌==◌, ◌^◌, ◌||◌, ◌∙◌, ◌∷◌}
pub use Rattle.std.proofs.Common.{◌≡◌, ◌≢◌, ◌≤◌, ◌⊎◌}
pub use Rattle.std.proofs.Math.Bridge.{le_prop}
pub use Rattle.std.proofs.Math.ListN.{drop_of_length-le, get_or-map}
pub use Rattle.std.proofs.Math.Path.{fun_ext}
pub use Rattle.std.proofs.Math.Seq.{drop-append_seam, drop-length, take-append_seam, take-length}
pub use Rattle.std.proofs.lemmas.Bool.{and_parts, cond-false, cond-true, false_from_ne_true, false≢true, le-leb, leb-false, leb-true}
pub use Rattle.std.proofs.lemmas.Bool.{lt-leb, not-false, not-true, or_parts, true≢false}
pub use Rattle.std.proofs.lemmas.Bool.Decides.{Decides-eqb, Decides-like, nat_tests, same_from_decides}
pub use Rattle.std.proofs.lemmas.List.{at_drop_more, drop-append-le, drop_all, drop_more, length-append, length-drop, length-map}
pub use Rattle.std.proofs.lemmas.List.{length-replicate, length-take, length-take-le, map-append, map-id, map-set, map_push, take-append-le}
pub use Rattle.std.proofs.lemmas.List.{take-take, take_all, take_more, take_rest}
pub use Rattle.std.proofs.lemmas.List.Elements.{filter-append}
pub use Rattle.std.proofs.lemmas.List.Folds.{find-append, list_any-append}
pub use Rattle.std.proofs.lemmas.List.Sums.{sum_by-set, sum_by_push}
pub use Rattle.std.proofs.lemmas.Option.{IfSome_then, get_or_from_slice_get, none-some, option_and_then_some, same_Some, slice_get-map}
pub use Rattle.std.proofs.lemmas.Option.{slice_get_cases, slice_get_past, slice_get_within}
pub use Rattle.std.proofs.lemmas.Result.{err_from_is_err_and, on_err_weaker, on_ok_weaker}
pub use Rattle.std.proofs.lemmas.Slice.Eq.{bytes_eq-Decides}
pub use Rattle.std.specs.Bool.{IsTrue}
pub use Rattle.std.specs.List.{find}
pub use Rattle.std.specs.Option.{IfSome, IsSome, IsSomeAnd, MatchOption, ok_or, option_map, option_or}
pub use Rattle.std.specs.Prelude.{IsOk, bytes_eq, if◌then◌else◌, is_ok, min, option_and_then, unwrap_or}
pub use Rattle.std.specs.Result.{IfOk, OnErr, result_ok}
