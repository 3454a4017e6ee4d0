-- The names that the proofs of this library cite of others and of its specs, passed on from one place. Declares nothing.
pub use Rattle.byteorder.specs.Endian.{big_bytes, big_number}
pub use Rattle.byteorder.specs.Numbers.{big_number-reads_back}
pub use Rattle.fork_format.specs.Canonical.{all_within, are_distinct, canon, clear, clear_group, clear_ref, data_of, data_starts, datum}
pub use Rattle.fork_format.specs.Canonical.{fits, has_refs, header, list_starts, lists, map_of, name, name_offset, name_or_none, name_start}
pub use Rattle.fork_format.specs.Canonical.{name_starts, names_of, names_offset, reference, references, refs_offset, starts, types}
pub use Rattle.fork_format.specs.Code.{content_or_code, read_code}
pub use Rattle.fork_format.specs.Content.{AreKinds, AreRefs, Content, Group, HaveRefs, IsContent, IsGroup, IsRef, Ref, distinct, is_of}
pub use Rattle.fork_format.specs.Content.{joined, refs_of}
pub use Rattle.fork_format.specs.Extent.{AreExtents, are_short, behind, is_low, is_name_low, is_short, next, no_starts, refs_end}
pub use Rattle.fork_format.specs.Fork.{IsUnspelled, Spells, all_data, all_refs, area_of, content_of, data_end, data_start, datum_at}
pub use Rattle.fork_format.specs.Fork.{datum_fits, datum_place, group_at, is_fork, kept, kind_in, map_end, map_kept, map_start, name_at}
pub use Rattle.fork_format.specs.Fork.{name_fits, name_list, name_place, number, offsets, part, parts_fit, ref_at, ref_count, ref_fits}
pub use Rattle.fork_format.specs.Fork.{ref_places, ref_size, refs_fit, type_count, type_list, type_places, type_size, types_fit}
pub use Rattle.fork_format.specs.Layout.{sizes_if}
pub use Rattle.fork_format.specs.Limits.{most_data}
pub use Rattle.fork_format.specs.Place.{ArePlaces, empty, opened, place, put}
pub use Rattle.fork_format.specs.View.{view, view_group, view_name, view_ref}
pub use Rattle.fork_format.specs.declared.content.RefName.{RefName}
pub use Rattle.fork_format.specs.declared.fault.ForkFault.{ForkFault}
pub use Rattle.fork_format.specs.declared.fault.ForkFault.TheVariants.{BadMap, Empty, HostMemory}
pub use Rattle.fork_format.specs.declared.fit.Extents.{Extents}
pub use Rattle.fork_format.specs.declared.fit.Starts.{Starts}
pub use Rattle.mac_words.proofs.Plain.{rest-next}
pub use Rattle.mac_words.specs.declared.code.OsErr.{OsErr}
pub use Rattle.mac_words.specs.declared.code.TheConstants.OsErr.{MAP_READ}
pub use Rattle.std.proofs.Common.{Bool, Err, List, None, Ok, Option, Result, Some, [], add_assoc, ap, append_assoc, arith, cond, drop}
pub use Rattle.std.proofs.Common.{false, get_or, inl, inr, length, length-append, lit<, map, not, refl, replicate, rules, set, subst, suc}
pub use Rattle.std.proofs.Common.{sum_by, sym, take, true, zero, ℕ, ◌%◌, ◌&&◌, ◌*◌, ◌++◌, ◌+◌, ◌-◌, ◌<◌, ◌^◌, ◌||◌, ◌∙◌, ◌∷◌, ◌≡◌, ◌≢◌, ◌≤◌}
pub use Rattle.std.proofs.Common.{◌⊎◌}
pub use Rattle.std.proofs.Math.Dec.{eqb}
pub use Rattle.std.proofs.Math.Facts.{Fits-of_z}
pub use Rattle.std.proofs.Math.Seq.{drop-append_seam, take-append_seam}
pub use Rattle.std.proofs.lemmas.Bool.{and_parts, le-leb, leb-true, ne_eqb, or_right}
pub use Rattle.std.proofs.lemmas.Bool.Decides.{eqb_tells, nat_tests}
pub use Rattle.std.proofs.lemmas.Int.{to_z-of_z}
pub use Rattle.std.proofs.lemmas.List.{append-nil, length-drop, length-map, length-take, map-append, map-set, map_push}
pub use Rattle.std.proofs.lemmas.List.Elements.{filter-append}
pub use Rattle.std.proofs.lemmas.List.Sorted.{IsNonDecreasingBy-from_sort, IsPermutation-sym}
pub use Rattle.std.proofs.lemmas.List.Sums.{sum_by-cons}
pub use Rattle.std.proofs.lemmas.Map.Keys.{IsDistinct-IsPermutation, IsDistinct-from_sorted, IsStrictlyIncreasing-from_distinct}
pub use Rattle.std.proofs.lemmas.Map.Keys.{sorted_from_strictly_increasing}
pub use Rattle.std.proofs.lemmas.Nat.{and_assoc}
pub use Rattle.std.specs.BTreeMap.{get}
pub use Rattle.std.specs.Int.{cast_signed, cast_unsigned, w16}
pub use Rattle.std.specs.List.{AllByRecursion, flat_map, list_all, list_any}
unfoldable pub use Rattle.std.specs.List.{IsDistinct}
pub use Rattle.std.specs.List.Sorted.{IsStrictlyIncreasing}
pub use Rattle.std.specs.Option.{option_map}
pub use Rattle.std.specs.Ordering.{is_eq, nat_cmp}
pub use Rattle.std.specs.Prelude.{FitsSigned, IfOk, IfSome, IsPermutation, IsSome, IsSorted, IsTrue, filter, is_some, nat_le, pos}
pub use Rattle.std.specs.Prelude.{slice_index, ℤ, ◌==◌, ◌↔◌}
