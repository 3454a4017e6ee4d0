-- The names that the proofs of this library cite of others and of its specs, passed on from one place. Declares nothing.
pub use Rattle.block_store.specs.Block.{Block, Free, Masters, Nonrelocatable, Relocatable, add, content_of, count, free, free_of, free_sum}
pub use Rattle.block_store.specs.Block.{is_masters, is_mover, is_nonrelocatable, is_purgeable, is_relocatable, is_room, no_flags, rename}
pub use Rattle.block_store.specs.Block.{rename_block, resized, resized_content, size, sizes, tidy, tidy_top, total, with_content}
pub use Rattle.block_store.specs.Compact.{Aligned, NoneRises, Placed, beyond, distance, has_block, has_room, is_less, largest, largest_free}
pub use Rattle.block_store.specs.Compact.{largest_run, least_or_last, lowered, lowered_in_runs, next_run, place_behind, runs_settled}
pub use Rattle.block_store.specs.Compact.{settled, settled_runs, stands_lower, stretches}
pub use Rattle.block_store.specs.Fewest.{IsFewest, serves, serves_block, smaller}
pub use Rattle.block_store.specs.Find.{FindsLowest, FindsLowestRun, IsEdge}
pub use Rattle.block_store.specs.Grow.{freed, grow, grow_at, grow_last, grow_mover, grow_nonrelocatable, grow_up, growth, move_away, taken}
pub use Rattle.block_store.specs.Grow.{taken_low}
pub use Rattle.block_store.specs.Inner.Joining.{Closed, last_free}
pub use Rattle.block_store.specs.Inner.NthRun.{FindsRun, nth_run, nth_run_of}
pub use Rattle.block_store.specs.Inner.Packing.{Loose, cleared, cleared_first, packed, run_between, run_of_index}
pub use Rattle.block_store.specs.Inner.Purging.{left_past}
pub use Rattle.block_store.specs.Inner.RunScan.{any_run, is_number, is_wanted, meets, met_after, scan_runs, suits}
pub use Rattle.block_store.specs.Inner.Stretch.{is_free, opened_block}
pub use Rattle.block_store.specs.Rest.{IsRest, KeepsSlots, Rest, counted, lowered_in_run, with_moves}
pub use Rattle.block_store.specs.Room.{Spot, count_of, filled, least, lowest_purged, may_be_purged, place, purge, put_at_base, put_in_place}
pub use Rattle.block_store.specs.Room.{raised, rename_spot, room, spot, spot_at}
pub use Rattle.block_store.specs.Run.{RunSpot, Segments, Stretch, change_run, has, has_free, high, in_run, joined, low, lowest_run, movers}
pub use Rattle.block_store.specs.Run.{others, put_below, run_at, run_from, run_raised, run_spot, runs, segments, settle, with_run}
pub use Rattle.block_store.specs.Seen.{moved_away, seen, with_flags}
pub use Rattle.block_store.specs.Slot.{NoSlot, Slot, Unused, Used, is_used, set_slot}
pub use Rattle.block_store.specs.Sparing.{most_purges, opened, purged, spared}
pub use Rattle.block_store.specs.Walk.{Tells, seen_size}
pub use Rattle.block_store.specs.declared.flags.Flags.{Flags}
pub use Rattle.block_store.specs.declared.sparing.Seen.{Seen}
pub use Rattle.block_store.specs.declared.sparing.Sparing.{Sparing}
pub use Rattle.mac_words.proofs.Plain.{is_some-map}
pub use Rattle.mac_words.specs.Size.{padded, phys}
pub use Rattle.memory_windows.specs.Writes.{written}
pub use Rattle.std.proofs.Common.{Bool, Err, List, None, Ok, Option, Result, Some, [], ap, append_assoc, arith, cond, drop, false, filter}
pub use Rattle.std.proofs.Common.{if◌then◌else◌, inl, inr, is_some, length, map, max, min, nat_le, nat_lt, not, refl, replicate, subst, suc}
pub use Rattle.std.proofs.Common.{sym, take, true, zero, ℕ, ◌%◌, ◌&&◌, ◌*◌, ◌++◌, ◌+◌, ◌-◌, ◌<◌, ◌==◌, ◌||◌, ◌∙◌, ◌∷◌, ◌≡◌, ◌≤◌, ◌⊎◌}
pub use Rattle.std.proofs.Math.Nat.{zero-max}
pub use Rattle.std.proofs.lemmas.Bool.{and_from, and_parts, cases_eq, cond-false, cond-true, false_from_ne_true, false≢true, le-leb}
pub use Rattle.std.proofs.lemmas.Bool.{leb-false, leb-true, lt-leb, lt-ltb, or_parts, true≢false}
pub use Rattle.std.proofs.lemmas.Bool.Decides.{Decides-eqb, eqb_tells, nat_tests}
pub use Rattle.std.proofs.lemmas.List.{append-nil, drop-drop, drop-replicate, length-append, length-drop, length-replicate, length-take}
pub use Rattle.std.proofs.lemmas.List.{length-take-le, map-append, take-append-drop, take_all}
pub use Rattle.std.proofs.lemmas.List.Elements.{filter-append}
pub use Rattle.std.proofs.lemmas.List.Folds.{list_any-append}
pub use Rattle.std.proofs.lemmas.Option.{none-some, option_and_then_some, same_Some}
pub use Rattle.std.specs.Bool.{IsTrue}
pub use Rattle.std.specs.Option.{IfSome, IsSome, IsSomeAnd, MatchOption, option_map, option_or}
pub use Rattle.std.specs.Prelude.{option_and_then}
pub use Rattle.std.specs.Result.{OnErr, OnOk}
