-- The names that the proofs of this library cite of others and of its specs, passed on from one place. Declares nothing.
pub use Rattle.block_headers.proofs.Headers.{length-header}
pub use Rattle.block_headers.proofs.Slots.{unused_number, unused_only}
pub use Rattle.block_headers.proofs.Words.{length-word, read_back}
pub use Rattle.block_headers.specs.Headers.{header_bytes, tag_number}
pub use Rattle.block_headers.specs.Slots.{slot_number}
pub use Rattle.block_headers.specs.Words.{header, word_at}
unfoldable pub use Rattle.block_headers.specs.Words.{word}
pub use Rattle.block_headers.specs.contracts.header.Tag.{the_type}
pub use Rattle.block_headers.specs.declared.header.Header.{Header}
pub use Rattle.block_headers.specs.declared.header.Tag.{Tag}
pub use Rattle.block_headers.specs.declared.slot.SlotWord.TheVariants.{Empty}
pub use Rattle.block_store.proofs.Content.Resizing.{count-grown, if_some-map, is_masters-resized, length-resized, less_or_more, tidy-grown}
pub use Rattle.block_store.proofs.Content.Sized.{Heading, cut-sized, filled-count, filled-free, free_sum-sized, total-sized, unjoined-above}
pub use Rattle.block_store.proofs.Nonrelocatable.Placing.{sizes-low, sizes-movers, sizes-settle, spot_at-below}
pub use Rattle.block_store.proofs.Purged.PurgedSums.{free-purged}
pub use Rattle.block_store.proofs.Purged.Purges.{tidy-flags}
pub use Rattle.block_store.proofs.Regroup.Behind.{beyond-first}
pub use Rattle.block_store.proofs.Regroup.Ends.{Stops, first-run, run_at-ended, settled-tidy}
pub use Rattle.block_store.proofs.Regroup.Lifted.{RunOf, apart-low, high-parts, loose-block, loose-over, low-none, no-movers, run-of}
pub use Rattle.block_store.proofs.Regroup.Lifted.{settle-parts, total-changed}
pub use Rattle.block_store.proofs.Regroup.Packed.{high-total, loose-append, loose-parts, low-total, settle-total, tidy-below}
pub use Rattle.block_store.proofs.Regroup.Parts.{in-settle}
pub use Rattle.block_store.proofs.Regroup.Regrouping.{apart-high, tidy-change}
pub use Rattle.block_store.proofs.Regroup.RunLists.{run_at-is, run_at-parts}
pub use Rattle.block_store.proofs.Regroup.RunsAbove.{behind-within, run_at-bottom}
pub use Rattle.block_store.proofs.Regroup.Settling.{has-spot}
pub use Rattle.block_store.proofs.Zone.Absence.{freed-absent}
pub use Rattle.block_store.proofs.Zone.Aligned.{spot_at-is}
pub use Rattle.block_store.proofs.Zone.Apart.{apart-above, apart-tidied, apart-tidy, longer, tidy-apart, tidy-content, tidy-tidy}
pub use Rattle.block_store.proofs.Zone.Joining.{add-alone, add-free}
pub use Rattle.block_store.proofs.Zone.Keeping.{SeesNoFree, freed-is, freely, purged-le, three, tidied, unless, unless-le, unless-none}
pub use Rattle.block_store.proofs.Zone.Leading.{count-none, is_masters-content, masters-released}
pub use Rattle.block_store.proofs.Zone.Listing.{free_of-le}
pub use Rattle.block_store.proofs.Zone.Parted.{spot_at-parted, tidy-renamed}
pub use Rattle.block_store.proofs.Zone.Spots.{finds, free-some, spot_at-spot}
pub use Rattle.block_store.proofs.Zone.Tidy.{Adds, spot-is, spot-passes, total-tidy}
pub use Rattle.block_store.proofs.Zone.Totals.{free_sum-free, total-append, total-le}
pub use Rattle.block_store.proofs.Zone.Views.{run_spot-is}
pub use Rattle.block_store.specs.Block.{Block, Free, Masters, Nonrelocatable, Relocatable, add, content_of, count, free, free_of, free_sum}
pub use Rattle.block_store.specs.Block.{fresh, is_masters, is_mover, is_nonrelocatable, is_purgeable, is_relocatable, is_room, no_flags}
pub use Rattle.block_store.specs.Block.{resized, resized_content, size, sizes, tidy, total, with_content}
pub use Rattle.block_store.specs.Compact.{Aligned, Placed, beyond, next_run, place_behind}
pub use Rattle.block_store.specs.Find.{FindsLowest, IsEdge}
pub use Rattle.block_store.specs.Grow.{freed, grow_up}
pub use Rattle.block_store.specs.Inner.Joining.{last_free}
pub use Rattle.block_store.specs.Inner.Packing.{Loose}
pub use Rattle.block_store.specs.Inner.Stretch.{is_free}
pub use Rattle.block_store.specs.Rest.{IsRest, Rest, counted, lowered_in_run, with_placed}
pub use Rattle.block_store.specs.Room.{Spot, count_of, filled, lowest_purged, may_be_purged, raised, spot, spot_at}
pub use Rattle.block_store.specs.Run.{RunSpot, has, has_free, high, in_run, low, movers, run_at, run_spot, segments, settle, with_run}
pub use Rattle.block_store.specs.Seen.{seen, with_flags}
pub use Rattle.block_store.specs.Slot.{NoSlot, Slot, Unused, Used, is_resource, is_used, set_slot}
pub use Rattle.block_store.specs.Sparing.{most_purges, opened, purged, spared}
pub use Rattle.block_store.specs.Walk.{Tells}
pub use Rattle.block_store.specs.declared.flags.Flags.{Flags}
pub use Rattle.block_store.specs.declared.measures.TheConstants.{GREATEST_ZONE}
pub use Rattle.block_store.specs.declared.sparing.Seen.{Seen}
pub use Rattle.block_store.specs.declared.sparing.Sparing.{Sparing}
pub use Rattle.mac_words.specs.Size.{padded}
pub use Rattle.memory_windows.proofs.Pieces.{drop-written_above, drop-written_below, length-written, piece-written, piece-written_above}
pub use Rattle.memory_windows.proofs.Pieces.{piece-written_below, take-written_above, take-written_at, take-written_below, written-same}
pub use Rattle.memory_windows.proofs.Pieces.{written-written}
pub use Rattle.memory_windows.specs.Windows.{Misses}
pub use Rattle.memory_windows.specs.Writes.{piece, written}
pub use Rattle.memory_windows.specs.declared.Window.{Window}
pub use Rattle.raw_region.specs.Memory.{Bytes}
pub use Rattle.std.proofs.Common.{Bool, IsTrue, List, None, Option, Some, [], add-zero, ap, append_assoc, arith, cond, drop, eqb, false}
pub use Rattle.std.proofs.Common.{get_or, inl, inr, is_some, length, length-append, map, nat_le, nat_lt, not, refl, replicate, rules, set}
pub use Rattle.std.proofs.Common.{subst, suc, sym, take, true, zero, ℕ, ◌%◌, ◌&&◌, ◌*◌, ◌++◌, ◌+◌, ◌-◌, ◌<◌, ◌==◌, ◌^◌, ◌∙◌, ◌∷◌, ◌≡◌, ◌≤◌}
pub use Rattle.std.proofs.Common.{◌⊎◌}
pub use Rattle.std.proofs.Math.Seq.{drop-append-add, drop-append_seam, take-add, take-append-add}
pub use Rattle.std.proofs.lemmas.Bool.{and_from, and_parts, cases_eq, eq-eqb, false≢true, ne_eqb, or_cases, or_left, or_right}
pub use Rattle.std.proofs.lemmas.Bool.Decides.{eqb_tells, nat_tests}
pub use Rattle.std.proofs.lemmas.List.{append-nil, drop-append-le, drop-drop, drop-take, drop_all, length-drop, length-replicate}
pub use Rattle.std.proofs.lemmas.List.{length-take-le, map-append, nil_from_length, take-append-drop, take-append-le, take-take, take_all}
pub use Rattle.std.proofs.lemmas.List.{take_at}
pub use Rattle.std.proofs.lemmas.List.Elements.{filter-append}
pub use Rattle.std.proofs.lemmas.Map.Steps.{length-le_from_distinct_below}
pub use Rattle.std.proofs.lemmas.Option.{same_Some}
pub use Rattle.std.specs.List.{AllByRecursion, list_any}
unfoldable pub use Rattle.std.specs.List.{IsDistinct}
pub use Rattle.std.specs.Option.{IfSome, IsSome, IsSomeAnd, option_map}
pub use Rattle.zone_bytes.specs.Adopting.{LeadsHere, adopted, named_header}
pub use Rattle.zone_bytes.specs.Beside.{KeepsPlace, rest_in}
pub use Rattle.zone_bytes.specs.Changes.{Became, Replaced}
pub use Rattle.zone_bytes.specs.Decode.{block_in, block_of_kind, flags_of}
unfoldable pub use Rattle.zone_bytes.specs.Decode.{blocks_in, zone_in}
pub use Rattle.zone_bytes.specs.Edges.{AreEdges, ByEdges, IsMover, Noted, Starts}
pub use Rattle.zone_bytes.specs.Emptied.{emptied}
pub use Rattle.zone_bytes.specs.Flagged.{flagged}
pub use Rattle.zone_bytes.specs.Fresh.{fresh_slots, slots_from}
unfoldable pub use Rattle.zone_bytes.specs.Fresh.{all_slots}
pub use Rattle.zone_bytes.specs.Hoisting.{Hoist, Hoisted, MayHoist, hoisted_run, unhoisted}
pub use Rattle.zone_bytes.specs.Joining.{Freeing, HasHandle, Joining, LeadsUp, MayFree, MayJoin, MayRelease}
pub use Rattle.zone_bytes.specs.Laid.{LaysOut, LiesThere}
pub use Rattle.zone_bytes.specs.Lawful.{IsLawful, IsSound}
pub use Rattle.zone_bytes.specs.Laying.{MayLay, free_first, headed, laid, new_header, past_free}
pub use Rattle.zone_bytes.specs.Layout.{Apart, ArePlaced, Each, IsPlaced, IsSlot, IsSlotOf, Leads, LeadsTo, Pairs, Tile, Tiles, flag_word}
pub use Rattle.zone_bytes.specs.Layout.{kind, names, names_of}
unfoldable pub use Rattle.zone_bytes.specs.Layout.{head_of}
pub use Rattle.zone_bytes.specs.Looking.{IsHandle, place_of_word}
pub use Rattle.zone_bytes.specs.Mastering.{HasMasters, Thread, Threading, is_slot_at, slots_at, with_slots}
pub use Rattle.zone_bytes.specs.Placing.{hoist_at, hoist_from, lay_at, lay_from}
pub use Rattle.zone_bytes.specs.Pointing.{IsMoved, Pointed, Pointing}
pub use Rattle.zone_bytes.specs.PurgeableBytes.{purgeable_at, purgeable_of, purgeable_sum}
pub use Rattle.zone_bytes.specs.Raising.{Lifted, MayLift, MayRaise, lifted}
pub use Rattle.zone_bytes.specs.Settling.{EndsRun, HasSlots, IsRunFrom, Lay, Lies, Packed, PackedUntil, Packing, Passing, Relaid}
pub use Rattle.zone_bytes.specs.Settling.{SameOthers, Settled, UntilAt, cut, first_in, gone_to, left_behind, lowered_in_run_from, rest_from}
pub use Rattle.zone_bytes.specs.Settling.{runs_on}
pub use Rattle.zone_bytes.specs.Splicing.{IsSplice, SameOutside, Splice}
pub use Rattle.zone_bytes.specs.Stepping.{IsOnWay, Steps, header_seen, left_in}
pub use Rattle.zone_bytes.specs.Table.{Chain, Has, IsUsed, Lays, MayGive, Says, Table, empty_word, first_of, is_slot, slot_of_word}
unfoldable pub use Rattle.zone_bytes.specs.Table.{slot_in}
pub use Rattle.zone_bytes.specs.Walking.{Walk}
pub use Rattle.zone_bytes.specs.declared.edges.Edges.{Edges}
pub use Rattle.zone_bytes.specs.declared.settling.TheConstants.{NEVER_ENOUGH}
