-- The names that the proofs of this library cite of others and of its specs, passed on from one place. Declares nothing.
pub use Rattle.block_headers.specs.Headers.{tag_number}
pub use Rattle.block_headers.specs.Words.{word_at}
pub use Rattle.block_store.proofs.Plain.Trials.{none-before}
pub use Rattle.block_store.proofs.Purged.Looks.{next-is, next-stays, next_from, opened-none, place-tidy, place_from, top_free}
pub use Rattle.block_store.proofs.Purged.PurgedSums.{apart-top_free, largest-purged, largest_stretch}
pub use Rattle.block_store.proofs.Purged.Purges.{lowest_purged-free, lowest_purged-kept, masters-lowest_purged, masters-opened, opened-same}
pub use Rattle.block_store.proofs.Purged.Purges.{sizes-lowest_purged, sizes-opened}
pub use Rattle.block_store.proofs.Purged.Rising.{lowest_purged-none, lowest_purged-stays, purged-all, run-rises}
pub use Rattle.block_store.proofs.Purged.Stretches.{opened-more, size-opened}
pub use Rattle.block_store.proofs.Regroup.MostRoom.{run-there}
pub use Rattle.block_store.proofs.Regroup.Packed.{settle-total}
pub use Rattle.block_store.proofs.Regroup.RunLists.{run_at-is, run_at-parts}
pub use Rattle.block_store.proofs.Regroup.RunScans.{scan-end, scan-is, scan_kept, suits-slot}
pub use Rattle.block_store.proofs.Regroup.RunSpots.{finds_run}
pub use Rattle.block_store.proofs.Regroup.RunsAbove.{run_at-bottom}
pub use Rattle.block_store.proofs.Walks.Telling.{told-size, told-sizes}
pub use Rattle.block_store.proofs.Zone.Apart.{Apart, apart-above, apart-size, apart-tidied, apart-tidy, tidy-apart}
pub use Rattle.block_store.proofs.Zone.Joining.{Ending, apart-front, closed-apart, closed-free, closed-tidy, ending, joined-below}
pub use Rattle.block_store.proofs.Zone.Joining.{released-tidy}
pub use Rattle.block_store.proofs.Zone.Listing.{free_of-le}
pub use Rattle.block_store.proofs.Zone.Spots.{finds, size-content, spot_at-spot}
pub use Rattle.block_store.proofs.Zone.Tidy.{spot-is, spot-passes, total-tidy}
pub use Rattle.block_store.proofs.Zone.Totals.{total-append}
pub use Rattle.block_store.specs.Block.{Block, Free, Masters, Relocatable, add, content_of, count, free, free_of, free_sum, is_mover}
pub use Rattle.block_store.specs.Block.{is_purgeable, is_relocatable, is_room, no_flags, size, sizes, tidy, with_content}
pub use Rattle.block_store.specs.Compact.{largest, largest_free, largest_run}
pub use Rattle.block_store.specs.Fewest.{IsFewest, serves, serves_block}
pub use Rattle.block_store.specs.Find.{FindsLowest, FindsLowestRun}
pub use Rattle.block_store.specs.Inner.Joining.{Closed, last_free}
pub use Rattle.block_store.specs.Inner.Packing.{Loose}
pub use Rattle.block_store.specs.Inner.Purging.{left_past}
pub use Rattle.block_store.specs.Inner.RunScan.{met_after, scan_from, scan_runs, suits}
pub use Rattle.block_store.specs.Inner.Stretch.{is_free, opened_block}
pub use Rattle.block_store.specs.Room.{Spot, count_of, filled, lowest_purged, may_be_purged, raised, spot, spot_at}
pub use Rattle.block_store.specs.Run.{RunSpot, has, has_free, in_run, movers, run_at, run_spot, segments, settle}
pub use Rattle.block_store.specs.Sparing.{most_purges, opened, purged, spared}
pub use Rattle.block_store.specs.declared.flags.Flags.{Flags}
pub use Rattle.block_store.specs.declared.measures.TheConstants.{GREATEST_ZONE}
pub use Rattle.block_store.specs.declared.run_search.RunScan.{RunScan}
pub use Rattle.block_store.specs.declared.sparing.Seen.{Seen}
pub use Rattle.block_store.specs.declared.sparing.Sparing.{Sparing}
pub use Rattle.block_store.specs.declared.sparing.Sparing.TheVariants.{Nothing}
pub use Rattle.memory_windows.proofs.Pieces.{length-written}
pub use Rattle.memory_windows.specs.Writes.{written}
pub use Rattle.std.proofs.Common.{Bool, List, None, Option, Some, [], ap, append_assoc, arith, cond, drop, false, get_or, if◌then◌else◌}
pub use Rattle.std.proofs.Common.{inl, inr, is_some, length, length-set, length-take, map, max, nat_le, nat_lt, not, refl, replicate, rules}
pub use Rattle.std.proofs.Common.{set, subst, suc, sym, take, take-append-drop, true, zero, ℕ, ◌%◌, ◌&&◌, ◌*◌, ◌++◌, ◌+◌, ◌-◌, ◌<◌, ◌==◌}
pub use Rattle.std.proofs.Common.{◌^◌, ◌∙◌, ◌∷◌, ◌≡◌, ◌≤◌, ◌⊎◌}
pub use Rattle.std.proofs.lemmas.Bool.{cases_Bool, cases_lt, false≢true, le-leb, leb-false, leb-true, lt-leb, lt-ltb, ltb-false, ltb-true}
pub use Rattle.std.proofs.lemmas.Bool.Decides.{eqb_tells}
pub use Rattle.std.proofs.lemmas.Grind.{common_steps}
pub use Rattle.std.proofs.lemmas.List.{append-nil, append_cancel_right, drop-drop, drop-set, drop-set-lt, drop-take, drop_all, drop_more}
pub use Rattle.std.proofs.lemmas.List.{get_or-drop, get_or-replicate, get_or-set_other, get_or-set_same, get_or-take, length-drop}
pub use Rattle.std.proofs.lemmas.List.{length-replicate, map-append, take-set, take-set-le, take_more, take_more_set}
pub use Rattle.std.proofs.lemmas.Option.{none-some, same_Some}
pub use Rattle.std.specs.Option.{IfSome, MatchOption, option_map}
pub use Rattle.zone_bytes.proofs.Blocks.Writes.{free-content}
pub use Rattle.zone_bytes.proofs.Bounds.Emptying.{all-purged, purged-below}
pub use Rattle.zone_bytes.proofs.Bounds.Given.{given-became, given-small}
pub use Rattle.zone_bytes.proofs.Bounds.Short.{free-given}
pub use Rattle.zone_bytes.proofs.Joined.Above.{joined-none, joined-other, joined-two, next}
pub use Rattle.zone_bytes.proofs.Joined.ByName.{emptied-is, handle-fits, leading, leading-free, leading-is, leading-replaced, leads}
pub use Rattle.zone_bytes.proofs.Joined.ByName.{may-release}
pub use Rattle.zone_bytes.proofs.Joined.Freed.{here-read, led, may-make, other-lays, slot-fits, slot-lays}
pub use Rattle.zone_bytes.proofs.Joined.Handles.{Gained, free-fits, gained}
pub use Rattle.zone_bytes.proofs.Joined.Ways.{Read, inside, left, read, way}
pub use Rattle.zone_bytes.proofs.Laws.Lawful.{sizes-length}
pub use Rattle.zone_bytes.proofs.Placed.Carved.{Roomy, filled-is}
pub use Rattle.zone_bytes.proofs.Places.AtPlace.{left-above, left-zone, low, on-way, way-above, whole}
pub use Rattle.zone_bytes.proofs.Places.Became.{became-fits, became-inside, became-left, became-way}
pub use Rattle.zone_bytes.proofs.Places.HeaderTells.{same-here}
pub use Rattle.zone_bytes.proofs.Places.LedTo.{led-place, led-slot}
pub use Rattle.zone_bytes.proofs.Places.Options.{if-spot, the-if}
pub use Rattle.zone_bytes.proofs.Places.Stepped.{left-none, next-header, stepped}
pub use Rattle.zone_bytes.proofs.SlotTable.Handles.{empty-number}
pub use Rattle.zone_bytes.proofs.Tiles.Keeping.{span-free}
pub use Rattle.zone_bytes.proofs.Tiles.Tags.{tag-small, tag-true}
pub use Rattle.zone_bytes.proofs.Tiles.Tiling.{span-append}
pub use Rattle.zone_bytes.specs.Beside.{KeepsPlace}
pub use Rattle.zone_bytes.specs.Changes.{AtEach, Became, Begins, Replaced}
pub use Rattle.zone_bytes.specs.Decode.{zone_in}
pub use Rattle.zone_bytes.specs.Edges.{AreEdges, ByEdges, IsMover, Starts}
pub use Rattle.zone_bytes.specs.Emptied.{all_purged, emptied}
pub use Rattle.zone_bytes.specs.Joining.{Freeing, Joining, LeadsUp, MayFree, MayJoin, MayRelease}
pub use Rattle.zone_bytes.specs.Lawful.{IsSound}
pub use Rattle.zone_bytes.specs.Laying.{free_first}
pub use Rattle.zone_bytes.specs.Layout.{Each, kind}
pub use Rattle.zone_bytes.specs.PurgeableBytes.{purgeable_of, purgeable_sum}
pub use Rattle.zone_bytes.specs.Settling.{runs_on}
pub use Rattle.zone_bytes.specs.Stepping.{IsOnWay, Steps, left_in}
pub use Rattle.zone_bytes.specs.Table.{Lays, empty_word, slot_in}
pub use Rattle.zone_bytes.specs.declared.edges.Edges.{Edges}
pub use Rattle.zone_marks.specs.Fewest.{count_within, purges_for, run_purges_for}
pub use Rattle.zone_marks.specs.LaidMarks.{AreLaid, IsBare}
pub use Rattle.zone_marks.specs.Marked.{AreOf, IsMarked}
pub use Rattle.zone_marks.specs.Marks.{AreGroups, AreMarks, AreOfZone, AreTold, AtMost, IsGroup, IsMark, IsTally, Lowered, Measures, NoRoom}
pub use Rattle.zone_marks.specs.Marks.{NoneBelow, RoomAt, Spans, above_all, between, ends_run, join_tallies, known_load, marks_in, next_of}
pub use Rattle.zone_marks.specs.Marks.{no_group, no_mark, tally_of, told}
pub use Rattle.zone_marks.specs.Purgeable.{MayStart, NoneGoes, Stays}
pub use Rattle.zone_marks.specs.Purging.{MayPurge, Purge, Purged, Purging, purge_above, purge_zone}
pub use Rattle.zone_marks.specs.RunSearch.{begun_in, found_from}
pub use Rattle.zone_marks.specs.Searching.{HasCome, IsKnown, IsPassed, IsPiece, IsStretch, begun, finds_in, finds_purging, place_at}
pub use Rattle.zone_marks.specs.Stretches.{best, beyond, counted, is_ended, join, load, one, prefix, space, spaces_of, stretch_by}
pub use Rattle.zone_marks.specs.Stretches.{stretch_of, suffix}
pub use Rattle.zone_marks.specs.declared.beginning.Passed.{Passed}
pub use Rattle.zone_marks.specs.declared.keeping.Landmarks.{Landmarks}
pub use Rattle.zone_marks.specs.declared.landmark.Group.{Group}
pub use Rattle.zone_marks.specs.declared.landmark.Landmark.{Landmark}
pub use Rattle.zone_marks.specs.declared.landmark.Tallies.{Tallies}
pub use Rattle.zone_marks.specs.declared.landmark.Tally.{Tally}
pub use Rattle.zone_marks.specs.declared.landmark.TheConstants.{GROUP}
pub use Rattle.zone_marks.specs.declared.measuring.Measured.{Measured}
pub use Rattle.zone_marks.specs.declared.stretch.Counting.{Counting}
pub use Rattle.zone_marks.specs.declared.stretch.Counting.TheVariants.{Runs, Spaces}
pub use Rattle.zone_marks.specs.declared.stretch.Stretch.{Stretch}
pub use Rattle.zone_marks.specs.declared.stretch.Stretch.TheVariants.{Ended, Whole}
