-- The names that the proofs of this library cite of others and of its specs, passed on from one place. Declares nothing.
pub use Rattle.byteorder.specs.Endian.{big_bytes, big_number}
pub use Rattle.byteorder.specs.Numbers.{big_from-append, big_number-reads_back, length-bytes_high_first}
pub use Rattle.checksums.proofs.Sums.{checksum-small}
pub use Rattle.checksums.specs.Checksum.{checksum}
unfoldable pub use Rattle.checksums.specs.Checksum.{with_bits}
pub use Rattle.fork_format.proofs.Bools.{same_self}
pub use Rattle.fork_format.proofs.Loops.{GoesOn, all_goes_on, offsets-left}
pub use Rattle.fork_format.proofs.Standing.{StandsAt, number-stands, part-stands, stands_first, stands_inside, stands_same, stands_second}
pub use Rattle.fork_format.proofs.Standing.{stands_whole}
pub use Rattle.fork_format.proofs.Vectors.{hi_fork}
pub use Rattle.fork_format.specs.Canonical.{canon}
pub use Rattle.fork_format.specs.Content.{Content}
pub use Rattle.fork_format.specs.Fork.{is_fork, number, offsets, part, parts_fit}
pub use Rattle.fork_wrappers.specs.Entries.{entries_end, entry_count, entry_fits, entry_part, entry_places, fork_entry, fork_in_entries}
pub use Rattle.fork_wrappers.specs.Entries.{fork_named, is_apple_double, is_apple_single, is_fork_entry, is_version_known, only_entry}
pub use Rattle.fork_wrappers.specs.Info.{bare_info, data_fork_in, entry_date, first_with, info_of}
pub use Rattle.fork_wrappers.specs.MacBinary.{checked_fork, data_length, data_place, fork_behind, fork_length, fork_place, is_first}
pub use Rattle.fork_wrappers.specs.MacBinary.{is_header, is_old_header, is_printable, is_second, is_third, least_version, name, padded}
pub use Rattle.fork_wrappers.specs.MacBinary.{secondary_length}
pub use Rattle.fork_wrappers.specs.Made.{IsChecked, TellsForks, apple_double, apple_file, apple_single, entry, header, mac_binary}
pub use Rattle.fork_wrappers.specs.Rewrapped.{AreBytes, IsKept, Refuses, added_entry, among_entries, are_clear, behind_header, fork_span}
pub use Rattle.fork_wrappers.specs.Rewrapped.{greatest_fork, has_entries, is_after_list, is_beside, is_clear, is_entries_file, moved}
pub use Rattle.fork_wrappers.specs.Rewrapped.{named_length, named_place, new_checksum, new_entry, new_fields, new_fork_entry, new_front}
pub use Rattle.fork_wrappers.specs.Rewrapped.{new_list, placed, recognized, remade, replaced, rewrapped, same_wrapping, span_of, with_fork}
pub use Rattle.fork_wrappers.specs.Rewrapped.{with_padded}
pub use Rattle.fork_wrappers.specs.Unwrapped.{fork_in, is_mac_binary, of_wrapper, unwrapped, wrapping_of}
pub use Rattle.fork_wrappers.specs.declared.fault.EntriesFault.{EntriesFault}
pub use Rattle.fork_wrappers.specs.declared.fault.MacBinaryFault.{MacBinaryFault}
pub use Rattle.fork_wrappers.specs.declared.fault.RewrapFault.{RewrapFault}
pub use Rattle.fork_wrappers.specs.declared.fault.WrapFault.{WrapFault}
pub use Rattle.fork_wrappers.specs.declared.new_entries.ForkSpan.{ForkSpan}
pub use Rattle.fork_wrappers.specs.declared.wrapping.Wrapping.{Wrapping}
pub use Rattle.plain_laws.proofs.Bytes.{bytes-append, bytes-drop, bytes-take}
pub use Rattle.std.proofs.Common.{Bool, IfErr, IfOk, List, None, Option, Some, [], ap, append_assoc, arith, cond, drop, false, get_or, inl}
pub use Rattle.std.proofs.Common.{inr, length, length-append, not, refl, replicate, rules, set, subst, suc, sym, take, true, zero, ℕ, ◌&&◌}
pub use Rattle.std.proofs.Common.{◌*◌, ◌++◌, ◌+◌, ◌-◌, ◌<◌, ◌^◌, ◌||◌, ◌∙◌, ◌∷◌, ◌≡◌, ◌≢◌, ◌≤◌, ◌⊎◌}
pub use Rattle.std.proofs.Math.Seq.{drop-append-add, drop-append_seam}
pub use Rattle.std.proofs.lemmas.Bool.{and_from, and_left, and_parts, and_right, cond-false, cond-true, eq-eqb, eqb-true, le-leb, le-ltb}
pub use Rattle.std.proofs.lemmas.Bool.{leb-true, ltb-false, ltb-true, not-false, or_cases}
pub use Rattle.std.proofs.lemmas.List.{append-nil, drop-append-le, length-drop, length-replicate, length-take, length-take-le}
pub use Rattle.std.proofs.lemmas.List.{take-append-drop, take-append-le, take_all}
pub use Rattle.std.proofs.lemmas.List.Elements.{filter-append}
pub use Rattle.std.proofs.lemmas.List.Folds.{list_all-append}
pub use Rattle.std.proofs.lemmas.Slice.Eq.{bytes_eq-Decides}
pub use Rattle.std.specs.List.{AllByRecursion, flat_map, list_all}
pub use Rattle.std.specs.Option.{option_to_list}
pub use Rattle.std.specs.Prelude.{Err, IfSome, Ok, Result, bytes_eq, codes, filter, if◌then◌else◌, is_ok, nat_le, nat_lt, ◌==◌}
