-- The names that the proofs of this library cite of others and of its specs, passed on from one place. Declares nothing.
pub use Rattle.block_store.proofs.Content.MovedInSteps.{RoomAt, copies-to, is-used, moved, no-block, room-at, stands}
pub use Rattle.block_store.proofs.Nonrelocatable.Placing.{size-flags}
pub use Rattle.block_store.proofs.Regroup.Lowered.{settle-counted}
pub use Rattle.block_store.proofs.Regroup.Repacked.{none-rises}
pub use Rattle.block_store.proofs.Regroup.Still.{still}
pub use Rattle.block_store.specs.Block.{Block, Free, Masters, Nonrelocatable, Relocatable, content_of, count, free_sum, fresh, is_masters}
pub use Rattle.block_store.specs.Block.{is_nonrelocatable, is_relocatable, is_room, no_flags, resized, size, sizes, tidy, with_content}
pub use Rattle.block_store.specs.Compact.{largest_free, largest_run, next_run, packed_stretches}
pub use Rattle.block_store.specs.Fewest.{IsFewest, serves, serves_block}
pub use Rattle.block_store.specs.Find.{FindsLowest, FindsLowestRun, IsEdge}
pub use Rattle.block_store.specs.Grow.{freed, grow_up, taken}
pub use Rattle.block_store.specs.Rest.{IsRest, lowered_in_run, with_slot}
pub use Rattle.block_store.specs.Room.{Spot, count_of, filled, lowest_purged, may_be_purged, spot, spot_at}
pub use Rattle.block_store.specs.Run.{RunSpot, has, has_free, high, movers, run_at, run_spot, runs, segments, settle, with_run}
pub use Rattle.block_store.specs.Seen.{seen, with_flags}
pub use Rattle.block_store.specs.Slot.{Unused, Used, is_resource, is_used, set_slot}
pub use Rattle.block_store.specs.Sparing.{most_purges, opened, purged, spared}
pub use Rattle.block_store.specs.Walk.{Tells}
pub use Rattle.mac_words.specs.Size.{padded}
pub use Rattle.memory_windows.proofs.Ordered.{within}
pub use Rattle.memory_windows.proofs.Outside.{got-written_outside}
pub use Rattle.memory_windows.specs.Writes.{written}
pub use Rattle.raw_zone.specs.Held.{Held}
pub use Rattle.raw_zone.specs.Parted.{rest_of, zone-no_block, zone-once, zone-tidied, zone_of}
pub use Rattle.raw_zone.specs.Raw.{held}
pub use Rattle.std.proofs.Common.{IsTrue, List, MatchOption, None, Option, Some, [], ap, arith, drop, false, is_some, length, refl}
pub use Rattle.std.proofs.Common.{replicate, rules, subst, sym, take, true, ℕ, ◌&&◌, ◌++◌, ◌+◌, ◌-◌, ◌<◌, ◌^◌, ◌∙◌, ◌∷◌, ◌≡◌, ◌≤◌}
pub use Rattle.std.proofs.lemmas.Bool.{and_parts, false≢true}
pub use Rattle.std.proofs.lemmas.List.{length-drop, length-replicate, length-take-le}
pub use Rattle.std.specs.Option.{IfSome, IsSome, IsSomeAnd, option_map}
pub use Rattle.zone_bytes.proofs.Blocks.Adopted.{NonrelocatableAt, adopt-reads-in, adopted-at, free-adopted, masters-adopted}
pub use Rattle.zone_bytes.proofs.Blocks.Adopted.{nonrelocatable-at}
pub use Rattle.zone_bytes.proofs.Blocks.Marked.{flagged-made, free-flagged, masters-flagged}
pub use Rattle.zone_bytes.proofs.Blocks.Writes.{content-inside, free-kept, masters-kept, written-in}
pub use Rattle.zone_bytes.proofs.Bounds.Given.{all-given, given-fits, given-freed, given-fresh, given-parts, given-purged, given-put}
pub use Rattle.zone_bytes.proofs.Bounds.Given.{given-released, given-small}
pub use Rattle.zone_bytes.proofs.Bounds.Short.{no-room, no-run, none-goes, none-next}
pub use Rattle.zone_bytes.proofs.FreshZones.FreshZone.{free-fresh, fresh-all, fresh-made, fresh-unused}
pub use Rattle.zone_bytes.proofs.Joined.Handles.{Gained, gained-fits, gained-kept, gained-rest, has-handle, released-gained, table-of}
pub use Rattle.zone_bytes.proofs.Joined.NonrelocatableFreed.{freed-is, may-free_nonrelocatable, nonrelocatable-gained}
pub use Rattle.zone_bytes.proofs.Laws.Lawful.{Made, kept-made, rest-made, rest-placed, sizes-length}
pub use Rattle.zone_bytes.proofs.Placed.Carved.{Roomy, carved-free, carved-masters, free-roomy, may-carve, relocatable-made, roomy}
pub use Rattle.zone_bytes.proofs.Placed.Carved.{tidy-made}
pub use Rattle.zone_bytes.proofs.Placed.Copied.{copied, copied-kept, copied-masters, holds-inside}
pub use Rattle.zone_bytes.proofs.Placed.MastersCarved.{masters-made, masters-slots}
pub use Rattle.zone_bytes.proofs.Placed.Resized.{cut-zone, grown-zone, resize-made}
pub use Rattle.zone_bytes.proofs.Placed.Sizes.{HasRoom, room-fits}
pub use Rattle.zone_bytes.proofs.Placed.Standing.{Standing, standing}
pub use Rattle.zone_bytes.proofs.Places.AtPlace.{above-fit, inside, left-at, left-zone, low, on-way, sizes-fit, some-here, way-at, whole}
pub use Rattle.zone_bytes.proofs.Places.Edges.{edge-tells, edge-way}
pub use Rattle.zone_bytes.proofs.Places.LedTo.{leads-here, led-found, led-slot, led-told}
pub use Rattle.zone_bytes.proofs.Places.Options.{a-spot, if-spot, one-spot, the-if, the-spot}
pub use Rattle.zone_bytes.proofs.Places.Walks.{free_span-le}
pub use Rattle.zone_bytes.proofs.Regions.Kept.{lies-kept}
pub use Rattle.zone_bytes.proofs.Runs.Changed.{ChangedRun, if-one, replaced-run, settled-run}
pub use Rattle.zone_bytes.proofs.Runs.Edged.{lifted-edges, settled-edges}
pub use Rattle.zone_bytes.proofs.Runs.HoistedAt.{hoist-bytes, hoist-changed, may-hoist, slot-inside}
pub use Rattle.zone_bytes.proofs.Runs.NextRuns.{next-fits, next-none, next-some}
pub use Rattle.zone_bytes.proofs.Runs.PackedAt.{IsPacked, is-packed, kept-changed, purgeable-changed, replaced-changed, rest-changed}
pub use Rattle.zone_bytes.proofs.Runs.RaisedAt.{lifted-run, lifted-zone, may-lift, room-run}
pub use Rattle.zone_bytes.proofs.Runs.RunsAt.{lay-bytes, lay-is, left-fits, may-end, may-settle, run-way}
pub use Rattle.zone_bytes.proofs.SlotTable.Handled.{a-handle, flag-read, marked-made, place-found}
pub use Rattle.zone_bytes.proofs.SlotTable.Slotted.{count-small, given-made, may-give, may-take, slot-reads-in, taken-made}
pub use Rattle.zone_bytes.proofs.Tiles.Spelling.{le-back}
pub use Rattle.zone_bytes.specs.Beside.{rest_in}
pub use Rattle.zone_bytes.specs.Changes.{Became}
pub use Rattle.zone_bytes.specs.Decode.{zone_in}
pub use Rattle.zone_bytes.specs.Edges.{AreEdges}
pub use Rattle.zone_bytes.specs.Fresh.{fresh_slots}
pub use Rattle.zone_bytes.specs.Lawful.{IsSound}
pub use Rattle.zone_bytes.specs.Laying.{new_header}
pub use Rattle.zone_bytes.specs.Layout.{Each, IsSlot}
pub use Rattle.zone_bytes.specs.Mastering.{slots_at, with_slots}
pub use Rattle.zone_bytes.specs.Placing.{hoist_at, lay_at}
pub use Rattle.zone_bytes.specs.PurgeableBytes.{purgeable_at, purgeable_of, purgeable_sum}
pub use Rattle.zone_bytes.specs.Raising.{lifted}
pub use Rattle.zone_bytes.specs.Stepping.{IsOnWay}
pub use Rattle.zone_bytes.specs.Table.{Lays, first_of, slot_in}
pub use Rattle.zone_marks.proofs.Bounds.Space.{stands-still}
pub use Rattle.zone_marks.proofs.Joined.PurgeStarts.{above-gained, may-purge, purge-gained, spot-at}
pub use Rattle.zone_marks.proofs.Marks.Owed.{filled-replaced, replaced-as, with-marks, with-same, with-written}
pub use Rattle.zone_marks.specs.Marked.{AreOf}
pub use Rattle.zone_marks.specs.Purgeable.{NoneGoes}
