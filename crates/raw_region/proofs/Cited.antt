-- The names that the proofs of this library cite of others and of its specs, passed on from one place. Declares nothing.
pub use Rattle.memory_windows.proofs.Ordered.{below_cond, contains-counted, length-taken_out, one-itself, order-from}
pub use Rattle.memory_windows.proofs.Pieces.{drop-written_above, piece-written_below}
pub use Rattle.memory_windows.proofs.Written.{written-before, written-then}
pub use Rattle.memory_windows.specs.Windows.{InOrder, IsApart, is_window, put_in, taken_out, window, with_window, without_window}
pub use Rattle.memory_windows.specs.Writes.{written}
pub use Rattle.memory_windows.specs.declared.Window.{Window}
pub use Rattle.plain_laws.proofs.Mapped.{prefix_len-map}
pub use Rattle.raw_region.specs.Gaps.{Beside, EndsFit, Fits, IsCut, IsGlued, IsLaid, IsStart, awake, back, before, bytes_of, front}
pub use Rattle.raw_region.specs.Gaps.{gap_ends_by, gap_is, joined, middle, room_of, window_of, windows_of, woken}
pub use Rattle.raw_region.specs.Memory.{Bytes, Whole}
pub use Rattle.raw_region.specs.Ownership.{Extent, bytes_own, room_owns, run_owns}
pub use Rattle.raw_region.specs.Regions.{IsRegion, asleep, region_view}
pub use Rattle.raw_region.specs.declared.gaps.Gap.{Gap}
pub use Rattle.raw_region.specs.declared.raw.OwnBytes.{OwnBytes}
pub use Rattle.raw_region.specs.declared.region.Region.TheInside.{Inside}
pub use Rattle.raw_region.specs.declared.region.TheConstants.{MOST_BYTES}
pub use Rattle.std.proofs.Common.{Bool, List, Vec, [], add-zero, add_assoc, ap, append-nil, append_assoc, arith, cond, drop, drop_at, false}
pub use Rattle.std.proofs.Common.{get_or, inl, inr, length, length-append, map, max, not, refl, replicate, set, subst, suc, sym, take}
pub use Rattle.std.proofs.Common.{take-append-drop, take_at, true, vec_capacity, vec_len, zero, zero-add, ℕ, ◌&&◌, ◌*◌, ◌++◌, ◌+◌, ◌-◌, ◌<◌}
pub use Rattle.std.proofs.Common.{◌^◌, ◌∙◌, ◌∷◌, ◌≡◌, ◌≤◌, ◌⊎◌}
pub use Rattle.std.proofs.Math.ListN.{get_or-map}
pub use Rattle.std.proofs.VecSteps.Shapes.{after}
pub use Rattle.std.proofs.alloc.Calls.{Goes-blank}
pub use Rattle.std.proofs.lemmas.Bool.{and_parts, eq-eqb, eqb-true, leb-false, leb-true, ne_eqb, not-false, not_from_false}
pub use Rattle.std.proofs.lemmas.List.{drop-append-le, drop-drop, drop-map, drop-set-lt, drop-take, drop_more, get_or-drop, get_or-take}
pub use Rattle.std.proofs.lemmas.List.{get_or_append_left, get_or_default, get_or_read_under, length-drop, length-map, length-replicate}
pub use Rattle.std.proofs.lemmas.List.{length-take-le, map-append, nil_from_length, replicate-append-replicate, set-append_left}
pub use Rattle.std.proofs.lemmas.List.{take-append-le, take-map, take-take, take_more, take_more_set}
pub use Rattle.std.proofs.lemmas.List.Elements.{All-head, All-tail}
pub use Rattle.std.proofs.lemmas.List.Sums.{prefix_len-le-length, prefix_len_stops}
pub use Rattle.std.proofs.raw_atomic.Walks.{proved_at}
pub use Rattle.std.specs.Allocator.{array_of, block_with_items}
pub use Rattle.std.specs.List.{Contains, insert, position_or_len, prefix_len, remove}
pub use Rattle.std.specs.Ptr.{room_for}
pub use Rattle.std.specs.Vec.{vec_ptr}
pub use Rattle.std_alloc.specs.Vec.Ownership.{has_block, lodged, owns_if, vec_owns}
pub use Rattle.std_alloc.specs.contracts.vec.lodged.LodgedAllocator.TheImpl.{ghosts}
pub use Rattle.std_alloc.specs.declared.vec.lodged.Lodged.{Lodged}
