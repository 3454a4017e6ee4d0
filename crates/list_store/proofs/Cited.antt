-- The names that the proofs of this library cite of others and of its specs, passed on from one place. Declares nothing.
pub use Rattle.block_store.proofs.Content.Copies.{first-bytes}
pub use Rattle.block_store.proofs.Content.Filling.{Lawful, lawful-carved, lawful-moved, lawful-resized, lawful-written}
pub use Rattle.block_store.proofs.Content.Fitting.{room-fits}
pub use Rattle.block_store.proofs.Content.Resizing.{found, found-above, found-here, grow_up-taken, if_found, if_grown, if_some, if_some-map}
pub use Rattle.block_store.proofs.Content.Resizing.{larger, moved-carved, on_ok, set-last, size-slot, sizes-inserted, taken-fits}
pub use Rattle.block_store.proofs.Content.Resizing.{taken-room}
pub use Rattle.block_store.proofs.Nonrelocatable.Blocks.{lawful-copied, lawful-nonrelocatable, lawful-nonrelocatable_freed, lawful-stood}
pub use Rattle.block_store.proofs.Nonrelocatable.Placing.{placed-freed, placed-tidy}
pub use Rattle.block_store.proofs.Plain.Options.{the_some}
pub use Rattle.block_store.proofs.Purged.Fewest.{none-serve, none-serve_block}
pub use Rattle.block_store.proofs.Purged.Purges.{emptied-goes, lawful-flagged, lawful-purged, lawful-purged_above, lowest_purged-end}
pub use Rattle.block_store.proofs.Purged.Purges.{lowest_purged-stays, sizes-opened}
pub use Rattle.block_store.proofs.Regroup.Lowered.{settle-counted}
pub use Rattle.block_store.proofs.Regroup.Packed.{Raised, beyond-more, beyond-stop, changed-fits, cleared-free, cleared-other, cleared-step}
pub use Rattle.block_store.proofs.Regroup.Packed.{drop-last, fallen-barrier, fallen-free, fallen-later, fallen-mover, first-more}
pub use Rattle.block_store.proofs.Regroup.Packed.{first-stop, free-enough, high-done, high-total, loose-without, packed-none, packed-total}
pub use Rattle.block_store.proofs.Regroup.Packed.{raised-fits, raised-run, run-above, run-between, take-last, tidy-packed, tidy-run}
pub use Rattle.block_store.proofs.Regroup.Packed.{total-between}
pub use Rattle.block_store.proofs.Regroup.Repacked.{lawful-hoisted, lawful-raised, lawful-settled, none-rises}
pub use Rattle.block_store.proofs.Regroup.RunLists.{raised-twice, run_at-parts, walked, walked-later, walked-past, walked-step}
pub use Rattle.block_store.proofs.Regroup.RunSpots.{sizes-drop}
pub use Rattle.block_store.proofs.Regroup.RunsAbove.{above-told, above-within}
pub use Rattle.block_store.proofs.Zone.Aligned.{aligned-freed, aligned-tidy}
pub use Rattle.block_store.proofs.Zone.Apart.{free-apart, tidy-tidy}
pub use Rattle.block_store.proofs.Zone.Leading.{masters-few, masters-released, none-set, released-none, released-once}
pub use Rattle.block_store.proofs.Zone.Listing.{add-free_free, free_of-le, raised_by, size-freed, sizes-freed, sizes-tidied, spot_at-more}
pub use Rattle.block_store.proofs.Zone.Listing.{spot_at-past, tidy-step}
pub use Rattle.block_store.proofs.Zone.Spots.{free-some, room-size, sizes-carved, sizes-same}
pub use Rattle.block_store.proofs.Zone.Tidy.{total-tidy}
pub use Rattle.block_store.proofs.Zone.Totals.{total-append, total-le}
pub use Rattle.block_store.specs.Block.{Block, Free, Masters, Nonrelocatable, Relocatable, add, content_of, count, free, free_of, free_sum}
pub use Rattle.block_store.specs.Block.{is_masters, is_mover, is_nonrelocatable, is_relocatable, is_room, resized, size, sizes, tidy}
pub use Rattle.block_store.specs.Block.{tidy_top, total, with_content}
pub use Rattle.block_store.specs.Compact.{Aligned, Placed, beyond, place_behind}
pub use Rattle.block_store.specs.Fewest.{serves, serves_block}
pub use Rattle.block_store.specs.Find.{FindsLowest, FindsLowestRun}
pub use Rattle.block_store.specs.Grow.{freed, grow_up, growth, taken}
pub use Rattle.block_store.specs.Inner.Packing.{Loose, cleared, cleared_first, packed, run_between}
pub use Rattle.block_store.specs.Inner.Stretch.{is_free}
pub use Rattle.block_store.specs.Rest.{lowered_in_run}
pub use Rattle.block_store.specs.Room.{Spot, count_of, filled, lowest_purged, may_be_purged, raised, spot, spot_at}
pub use Rattle.block_store.specs.Run.{RunSpot, has, has_free, high, in_run, low, movers, run_at, run_raised, segments, with_run}
pub use Rattle.block_store.specs.Seen.{moved_away, seen, with_flags}
pub use Rattle.block_store.specs.Slot.{NoSlot, Unused, Used, is_used, set_slot}
pub use Rattle.block_store.specs.Sparing.{most_purges, opened, spared}
pub use Rattle.block_store.specs.Walk.{Tells}
pub use Rattle.block_store.specs.declared.flags.Flags.{Flags}
pub use Rattle.list_store.specs.Lists.{block_of, blocks_of, freed_first, is_unused, nth_spot, slot_of, slot_or_none, slots_of}
pub use Rattle.list_store.specs.declared.entries.StoredBlock.{StoredBlock}
pub use Rattle.list_store.specs.declared.slots.SlotEntry.{SlotEntry}
pub use Rattle.memory_windows.specs.Writes.{written}
pub use Rattle.std.proofs.Common.{Bool, Err, List, None, Ok, Option, Result, Some, [], ap, append_assoc, arith, cond, count_by, drop, false}
pub use Rattle.std.proofs.Common.{get_or, inl, inr, length, map, nat_lt, not, refl, replicate, rules, slice_get, slice_set, subst, suc, sym}
pub use Rattle.std.proofs.Common.{take, true, zero, ℕ, ◌%◌, ◌&&◌, ◌*◌, ◌++◌, ◌+◌, ◌-◌, ◌<◌, ◌==◌, ◌||◌, ◌∙◌, ◌∷◌, ◌≡◌, ◌≤◌, ◌⊎◌}
pub use Rattle.std.proofs.Math.Nat.{add-sub_cancel_left}
pub use Rattle.std.proofs.lemmas.Bool.{and_right, cases_eq, cond-false, cond-true, false_from_ne_true}
pub use Rattle.std.proofs.lemmas.Bool.Decides.{Decides-eqb, nat_tests}
pub use Rattle.std.proofs.lemmas.List.{append-nil, drop-drop, drop-map, drop_all, drop_more, get_or-set_other, length-append, length-drop}
pub use Rattle.std.proofs.lemmas.List.{length-map, length-replicate, length-set, length-take, map-append, set-set, set_split}
pub use Rattle.std.proofs.lemmas.List.{take-append-drop, take-map, take_all, take_at, take_more}
pub use Rattle.std.proofs.lemmas.List.Sums.{sum_by-cons}
pub use Rattle.std.proofs.lemmas.Option.{none-some, same_Some}
pub use Rattle.std.proofs.lemmas.Result.{IfOk-weaker, on_err_weaker, on_ok_weaker}
pub use Rattle.std.proofs.lemmas.Slice.{put_mid-rotated}
pub use Rattle.std.specs.Bool.{IsTrue}
pub use Rattle.std.specs.List.{insert, remove}
pub use Rattle.std.specs.Option.{IfSome, IsSome, IsSomeAnd, option_map}
pub use Rattle.std.specs.Result.{OnErr, OnOk}
