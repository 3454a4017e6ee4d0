-- The names that the proofs of this library cite of others and of its specs, passed on from one place. Declares nothing.
pub use Rattle.byteorder.specs.Endian.{big_number}
pub use Rattle.fork_format.proofs.Bools.{and_both, not_same, same_self}
pub use Rattle.fork_format.proofs.Joining.{left_apart}
pub use Rattle.fork_format.proofs.Rest.{rest-map}
pub use Rattle.fork_format.proofs.Spelled.{distinct-all}
pub use Rattle.fork_format.proofs.Whole.{filter-all}
pub use Rattle.fork_format.specs.Canonical.{are_distinct, has_refs}
pub use Rattle.fork_format.specs.Content.{Content, Group, Ref, distinct}
pub use Rattle.fork_format.specs.View.{view_group, view_ref}
pub use Rattle.mac_words.proofs.Plain.{rest-next}
pub use Rattle.memory_windows.specs.Writes.{written}
pub use Rattle.res_map.specs.Index.{IsAt, IsEach, IsEachAnd, IsHolding, IsIndex, IsRising, IsRowOf, IsToldAs, IsWithin, entered}
pub use Rattle.res_map.specs.Index.{first_place, handle_row, has_print, held_row, held_weights, is_held, is_own, is_printed, is_row}
pub use Rattle.res_map.specs.Index.{lowered, moved, named_row, place_in, raised, raised_within, rank, rank_of, row_weights, rows_in, sooner}
pub use Rattle.res_map.specs.Index.{weight}
pub use Rattle.res_map.specs.Inner.{end_after, end_of}
pub use Rattle.res_map.specs.Map.{IsOrdered, Map, Reference, added, all_anew, content, group_of, groups_of, has_handle, is_handle, is_named}
pub use Rattle.res_map.specs.Map.{is_of, is_resource, map_of, name_by, of_group, of_groups, of_type, read_reference, renamed, resized_datum}
pub use Rattle.res_map.specs.Map.{same_name, split_nth, stand_together, starts_with, stored_anew, types, with_attrs, with_datum}
pub use Rattle.res_map.specs.Map.{with_handle}
pub use Rattle.res_map.specs.Print.{with_bytes}
unfoldable pub use Rattle.res_map.specs.Print.{print}
pub use Rattle.res_map.specs.Runs.{leading_count, leading_groups, stored_group}
pub use Rattle.res_map.specs.Split.{Split, behind, place, removed, replaced, split}
pub use Rattle.res_map.specs.View.{view_all, view_bytes, view_reference}
pub use Rattle.res_map.specs.declared.index.Row.{Row}
pub use Rattle.res_map.specs.declared.stored.StoredReference.{StoredReference}
pub use Rattle.std.proofs.Common.{Bool, IfSome, List, None, Option, SFits, Some, Vec, [], ap, append_assoc, arith, cond, drop, false}
pub use Rattle.std.proofs.Common.{get_or, inl, inr, int_eq, is_lt, length, length-set, map, min, nat_cmp, not, of_z, pos, refl, rules}
pub use Rattle.std.proofs.Common.{subst, suc, sym, take, to_z, true, w16, w32, zero, ℕ, ℤ, ⊎_elim, ◌&&◌, ◌++◌, ◌+◌, ◌-◌, ◌/◌, ◌<◌, ◌||◌}
pub use Rattle.std.proofs.Common.{◌∙◌, ◌∷◌, ◌≡◌, ◌≤◌, ◌⊎◌}
pub use Rattle.std.proofs.Math.Facts.{sfits_widen}
pub use Rattle.std.proofs.lemmas.Bool.{and_parts, both_ways, cases_lt, eqb-true, not-true, not_from_false, or_cases, or_from, or_left}
pub use Rattle.std.proofs.lemmas.Bool.{or_parts, or_right}
pub use Rattle.std.proofs.lemmas.Bool.Decides.{Decides-eqb, Decides-int_eq, eqb_tells, nat_tests}
pub use Rattle.std.proofs.lemmas.Cmp.{nat_cmp_total}
pub use Rattle.std.proofs.lemmas.Fn.{filter_same}
pub use Rattle.std.proofs.lemmas.Int.{of_z-to_z, to_z-of_z}
pub use Rattle.std.proofs.lemmas.List.{append-nil, drop_all, drop_more, get_or-map, get_or_default, length-map, length-take-le, map-append}
pub use Rattle.std.proofs.lemmas.List.{map-set, map_more, map_push, set-set, take_all}
pub use Rattle.std.proofs.lemmas.List.Edits.{get_or-remove_above, get_or-remove_below, insert_end, length-insert, length-remove}
pub use Rattle.std.proofs.lemmas.List.Edits.{map_over_more}
pub use Rattle.std.proofs.lemmas.List.Elements.{filter-append}
pub use Rattle.std.proofs.lemmas.List.Kept.{IsNonDecreasingBy-filter}
pub use Rattle.std.proofs.lemmas.List.Sorted.{IsNonDecreasingBy-from_sort_by, IsNonDecreasingBy-insert, IsPartitionPoint-from_clause}
pub use Rattle.std.proofs.lemmas.List.Sorted.{IsPartitionedBy-ltb, answers_always, ranks_by}
pub use Rattle.std.proofs.lemmas.List.Sums.{sum_by-cons, sum_by-insert, sum_by-remove, sum_by-set}
pub use Rattle.std.proofs.lemmas.Option.{slice_get-get_or, slice_get-map, slice_get_within}
pub use Rattle.std.proofs.lemmas.Result.{on_err_weaker, on_ok_weaker}
pub use Rattle.std.proofs.lemmas.Slice.Eq.{bytes_eq-Decides}
pub use Rattle.std.specs.Int.{cast_signed, cast_unsigned}
pub use Rattle.std.specs.List.{drop-map, insert, list_all, list_any, remove, take-map}
pub use Rattle.std.specs.List.Sorted.{IsPartitionPoint, IsStableBy}
pub use Rattle.std.specs.Prelude.{filter, is_none, is_ok, is_some, nat_le, nat_lt, option_map, slice_get, slice_set, vec_capacity, ◌%◌}
pub use Rattle.std.specs.Prelude.{◌==◌, ◌^◌, ◌≢◌}
pub use Rattle.std.specs.Str.{str_to_ascii_lowercase}
pub use Rattle.std.specs.declared.alloc.Global.{Global}
