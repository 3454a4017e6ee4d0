-- The names that the proofs of this library cite of others and of its specs, passed on from one place. Declares nothing.
pub use Rattle.block_store.proofs.Plain.Trials.{least_or_last-le}
pub use Rattle.block_store.proofs.Regroup.Parts.{mover-in}
pub use Rattle.block_store.proofs.Regroup.RunLists.{segments-loose}
pub use Rattle.block_store.proofs.Renamed.GrowRenaming.{resized-rename}
pub use Rattle.block_store.proofs.Renamed.Renaming.{change_run-rename, filled-rename, filter-rename, free-rename, free_of-rename}
pub use Rattle.block_store.proofs.Renamed.Renaming.{freed-rename, grow_mover-rename, grow_up-rename, has-rename, has_free-rename}
pub use Rattle.block_store.proofs.Renamed.Renaming.{is_mover-rename, is_purgeable-rename, is_room-rename, joined-rename, others-rename}
pub use Rattle.block_store.proofs.Renamed.Renaming.{place-rename, purge-rename, put_in_place-rename, rename_run_spot, rename_stretch}
pub use Rattle.block_store.proofs.Renamed.Renaming.{run_spot-rename, segments-rename, size-rename, spot-rename, tidy-rename, total-rename}
pub use Rattle.block_store.proofs.Zone.Alike.{Alike, OneRun, alike-append, alike-based, alike-cons, alike-filled, alike-freed}
pub use Rattle.block_store.proofs.Zone.Alike.{alike-grown_up, alike-heads, alike-moved, alike-purged, alike-put, alike-refl, alike-then}
pub use Rattle.block_store.proofs.Zone.Alike.{locks, one-run, sizes-free, sizes-movers, stands, unlocked-run}
pub use Rattle.block_store.proofs.Zone.Keeping.{based-le, counts-free, filled-is, filtered, freed-is, freely, moved-le, purged-le, put-le}
pub use Rattle.block_store.proofs.Zone.Keeping.{taken-le, tidied, unless, unless-free, unless-le}
pub use Rattle.block_store.proofs.Zone.Surviving.{based-all, moved-all, movers-all, put-all, taken-all, whole}
pub use Rattle.block_store.proofs.Zone.Tidy.{spot-is, spot-passes}
pub use Rattle.block_store.proofs.Zone.Totals.{total-append, total-le}
pub use Rattle.block_store.proofs.Zone.Views.{map-some}
pub use Rattle.block_store.proofs.Zone.Zones.{joined-is, joined-segments}
pub use Rattle.block_store.specs.Block.{Block, Free, Masters, Nonrelocatable, Relocatable, content_of, count, free, free_of, free_sum}
pub use Rattle.block_store.specs.Block.{is_mover, is_purgeable, is_relocatable, is_room, rename, rename_block, resized, size, sizes, tidy}
pub use Rattle.block_store.specs.Block.{total, with_content}
pub use Rattle.block_store.specs.Compact.{beyond, least_or_last}
pub use Rattle.block_store.specs.Grow.{freed, grow_last, grow_mover, grow_up, growth, move_away, taken}
pub use Rattle.block_store.specs.Rest.{lowered_in_run}
pub use Rattle.block_store.specs.Room.{Spot, count_of, filled, lowest_purged, may_be_purged, place, purge, put_at_base, put_in_place}
pub use Rattle.block_store.specs.Room.{rename_spot, spot}
pub use Rattle.block_store.specs.Run.{RunSpot, change_run, has, has_free, high, in_run, joined, low, movers, others, run_spot, segments}
pub use Rattle.mac_words.proofs.Plain.{is_some-map}
pub use Rattle.mac_words.specs.Size.{phys}
pub use Rattle.memory_windows.specs.Writes.{written}
pub use Rattle.moves.specs.Bytes.{bytes_in}
pub use Rattle.moves.specs.Moves.{Base, Cut, Did, Drop, Extend, Grow, Move, Purge, Push, Put, Search, Write, and_then, did, gone_above}
pub use Rattle.moves.specs.Moves.{gone_by, growth_lowers, is_same, last_lowers, lowered_by, lowered_in, lowest_gone, moved, one}
pub use Rattle.moves.specs.Moves.{place_lowers, pushed, rename_did, rename_move, rewritten, run_above, searches_by, untouched}
pub use Rattle.moves.specs.Seeking.{Sought, around, at_hand, if_fits, no_room, purges_for, rename_sought, seek, seek_in_place, seek_resized}
pub use Rattle.moves.specs.Seeking.{seek_size, seek_slot, sought, then_seek}
pub use Rattle.std.proofs.Common.{Bool, List, None, Option, Some, [], ap, append-nil, append_assoc, arith, cond, false, filter, is_some}
pub use Rattle.std.proofs.Common.{length, map, nat_le, not, refl, subst, suc, sym, true, zero, ℕ, ◌&&◌, ◌++◌, ◌+◌, ◌-◌, ◌∙◌, ◌∷◌, ◌≡◌, ◌≤◌}
pub use Rattle.std.proofs.lemmas.Bool.{and_parts, cond-false, cond-true, leb-false, leb-true}
pub use Rattle.std.proofs.lemmas.List.{map-append}
pub use Rattle.std.proofs.lemmas.Option.{option_and_then_some, same_Some}
pub use Rattle.std.proofs.lemmas.Slice.Eq.{bytes_eq-Decides}
pub use Rattle.std.specs.Option.{option_map, option_or}
pub use Rattle.std.specs.Prelude.{bytes_eq, option_and_then, unwrap_or}
