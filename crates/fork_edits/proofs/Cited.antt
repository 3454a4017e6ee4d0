-- The names that the proofs of this library cite of others and of its specs, passed on from one place. Declares nothing.
pub use Rattle.byteorder.specs.Endian.{big_bytes, big_number}
pub use Rattle.byteorder.specs.Numbers.{big_from-lt, big_number-reads_back}
pub use Rattle.fork_edits.specs.Attributes.{attrs_read, digits_read, is_comma, number_from, number_read, word_value, words_value}
pub use Rattle.fork_edits.specs.Contents.{Entry, Listed, area_line, attrs_line, contents_text, entry, entry_line, listed, listed_text}
pub use Rattle.fork_edits.specs.Contents.{name_field}
pub use Rattle.fork_edits.specs.Differences.{Added, Changed, Difference, Order, Removed, alone, compared, differences, found_differences}
pub use Rattle.fork_edits.specs.Differences.{is_same, matched, or_order, paired, same_content, same_group, same_name, same_ref, unmatched}
pub use Rattle.fork_edits.specs.FileNames.{file_name, is_plain_byte, name_part, place_text, resource_part, safe_byte}
pub use Rattle.fork_edits.specs.Filed.{AreApart, Filed, HasNoName, filed, filed_by, filed_fixed, filed_numbered, numbered_from}
pub use Rattle.fork_edits.specs.FixedNames.{case_after, fixed_byte, fixed_bytes, fixed_name, is_capital, is_small, letter}
pub use Rattle.fork_edits.specs.Lines.{word_if}
pub use Rattle.fork_edits.specs.Listing.{Draft, StopsLine, StopsList, after_word, at_line, contents_read, entry_in, entry_of, entry_read}
pub use Rattle.fork_edits.specs.Listing.{fields_after, file_read, is_file_byte, is_newline, line_read, lines_read, no_draft, said}
pub use Rattle.fork_edits.specs.Listing.{stopped_at, type_length, with_entry, without_return, word, word_length}
pub use Rattle.fork_edits.specs.Merging.{both, clash, merged, or_other, replaced_by, row_group, with_both, with_rows}
pub use Rattle.fork_edits.specs.Numbers.{below_zero, id_read, number_after, number_within}
pub use Rattle.fork_edits.specs.Packing.{HasByteName, HasFiles, IsListable, file_bytes, named_files, packed_content, packed_rows}
pub use Rattle.fork_edits.specs.Quoted.{quoted_from, quoted_read}
pub use Rattle.fork_edits.specs.Removing.{first_replaced, group_with, group_without, groups_without, without_resource}
pub use Rattle.fork_edits.specs.Renaming.{Renaming, group_renamed, is_taken, refusal, renamed, row_renamed, with_renamed}
pub use Rattle.fork_edits.specs.Resources.{Row, found, group_rows, has_id, is_at, others, row, rows}
pub use Rattle.fork_edits.specs.RomanNames.{name_or_fault, name_read, short_name}
pub use Rattle.fork_edits.specs.RomanTypes.{some_type, type_or_fault, type_text_read}
pub use Rattle.fork_edits.specs.Setting.{Change, added, blank, changed, first_changed, group_changed, groups_with, has_resource, one_group}
pub use Rattle.fork_edits.specs.Setting.{replaced, resource_set, row_changed, with_one, with_resource}
pub use Rattle.fork_edits.specs.Texts.{char_text, four_text, hex_byte, is_clear, name_text, type_text}
pub use Rattle.fork_edits.specs.Twins.{twin}
pub use Rattle.fork_edits.specs.Types.{before, byte_value, bytes_spelled, digit_value, is_between, type_read}
pub use Rattle.fork_edits.specs.View.{view_change, view_difference, view_draft, view_entry, view_filed, view_renaming, view_row}
pub use Rattle.fork_edits.specs.Waiting.{AreWaiting, key_cmp, queued, same_key, waits}
pub use Rattle.fork_edits.specs.declared.entries.LineFault.{LineFault}
pub use Rattle.fork_edits.specs.declared.entries.LineStop.{LineStop}
pub use Rattle.fork_edits.specs.declared.quoted.Within.TheVariants.{Start}
pub use Rattle.fork_edits.specs.declared.renaming.RenameFault.TheVariants.{NotFound, Taken}
pub use Rattle.fork_edits.specs.declared.waiting.Queue.{Queue}
pub use Rattle.fork_format.proofs.Joining.{joined-push}
pub use Rattle.fork_format.proofs.Placing.{is_eq-nat_cmp, opened-known, opened-new, place-filled, place-inside, place-new, place-own}
pub use Rattle.fork_format.proofs.Placing.{put-filled, view_new}
pub use Rattle.fork_format.proofs.Putting.{put-two}
pub use Rattle.fork_format.proofs.Rest.{rest-map}
pub use Rattle.fork_format.proofs.Spelled.{area_whole, spelled_references, spelled_types}
pub use Rattle.fork_format.proofs.Standing.{kind_again}
pub use Rattle.fork_format.specs.Canonical.{are_distinct, canon, has_refs}
pub use Rattle.fork_format.specs.Content.{Content, Group, IsGroup, IsRef, Ref, distinct, is_of, joined, refs_of}
pub use Rattle.fork_format.specs.Fork.{Spells, all_data, all_refs, area_of, content_of, data_start, group_at, is_fork, map_start, name_at}
pub use Rattle.fork_format.specs.Fork.{name_place, number, offsets, part, parts_fit, ref_at, ref_count, ref_places, refs_fit, type_places}
pub use Rattle.fork_format.specs.Fork.{types_fit}
pub use Rattle.fork_format.specs.Limits.{most_data, most_references}
pub use Rattle.fork_format.specs.Place.{ArePlaces, empty, opened, place, put}
pub use Rattle.fork_format.specs.View.{view, view_group, view_name, view_ref}
pub use Rattle.mac_roman.proofs.PlainText.{taken}
pub use Rattle.mac_roman.specs.Charset.{character, is_printable}
pub use Rattle.mac_roman.specs.declared.charset.Charset.TheVariants.{Ascii, Utf8}
pub use Rattle.mac_words.proofs.Plain.{rest-next}
pub use Rattle.mac_words.specs.Digits.{upper_digit}
pub use Rattle.plain_laws.proofs.Elements.{each-append}
pub use Rattle.std.proofs.Common.{Bool, Decides, Equal, Greater, Less, List, None, Option, Ordering, Result, Some, [], ap, append-nil}
pub use Rattle.std.proofs.Common.{append_assoc, arith, codes, cond, decimal, drop, false, get_or, inl, inr, length, lit<, lit≤, map, refl}
pub use Rattle.std.proofs.Common.{replicate, rules, subst, suc, sym, take, tests, true, zero, ℕ, ◌%◌, ◌*◌, ◌++◌, ◌+◌, ◌-◌, ◌/◌, ◌<◌, ◌^◌}
pub use Rattle.std.proofs.Common.{◌∙◌, ◌∷◌, ◌≡◌, ◌≢◌, ◌≤◌, ◌⊎◌}
pub use Rattle.std.proofs.Math.Facts.{sfits_to_z, sfits_widen}
pub use Rattle.std.proofs.Math.ListN.{length-set, set}
pub use Rattle.std.proofs.Math.Seq.{drop-length, take-length}
pub use Rattle.std.proofs.lemmas.Bool.{and_parts, and_right, eq-eqb, eqb-true, false≢true, leb-true}
pub use Rattle.std.proofs.lemmas.Bool.Decides.{Decides-and, Decides-eqb, Decides-int_eq, nat_tests}
pub use Rattle.std.proofs.lemmas.Fmt.{decimal_by_steps, decimal_nonempty, signed_decimal_injective}
pub use Rattle.std.proofs.lemmas.Iterator.Adapters.{position_from-zero}
pub use Rattle.std.proofs.lemmas.Iterator.Consumers.{YieldsList-end, YieldsList-turn}
pub use Rattle.std.proofs.lemmas.Iterator.Splits.{YieldsList-from_slice_split}
pub use Rattle.std.proofs.lemmas.List.{append_cancel_right, at_drop_all, drop_more, length-append, length-map, length-take, length_push}
pub use Rattle.std.proofs.lemmas.List.{map-append, take_all, take_more_set}
pub use Rattle.std.proofs.lemmas.List.Elements.{filter-append}
pub use Rattle.std.proofs.lemmas.List.Quantifiers.{position-Some}
pub use Rattle.std.proofs.lemmas.List.Splits.{slice_split-cons_no}
pub use Rattle.std.proofs.lemmas.List.Sums.{sum_by-cons}
pub use Rattle.std.proofs.lemmas.Nat.{and_le_r}
pub use Rattle.std.proofs.lemmas.Result.{on_err_weaker, on_ok_weaker}
pub use Rattle.std.proofs.lemmas.Slice.Eq.{bytes_eq-Decides, slice_eq-Decides}
pub use Rattle.std.proofs.lemmas.Str.{encode_ascii}
pub use Rattle.std.specs.BTreeMap.{get}
pub use Rattle.std.specs.Borrow.{Bor}
pub use Rattle.std.specs.Char.{to_ascii_lowercase}
pub use Rattle.std.specs.Cmp.Lexicographic.{pointwise}
pub use Rattle.std.specs.Fmt.{signed_decimal}
pub use Rattle.std.specs.Int.{w16, w64}
pub use Rattle.std.specs.Int.Signed.{mag}
pub use Rattle.std.specs.List.{AllByRecursion, filter, find, flat_map, list_all, list_any, onto_first, position, position_from, remove}
pub use Rattle.std.specs.List.{slice_split}
pub use Rattle.std.specs.Ordering.{int_cmp, int_eq, is_eq, nat_cmp, ordering_then}
pub use Rattle.std.specs.Prelude.{Err, FitsSigned, IfSome, IsTrue, MatchOption, Ok, bit_and, bit_or, bytes_eq, is_some, nat_le, nat_lt}
pub use Rattle.std.specs.Prelude.{negsuc, not, option_map, option_to_list, pos, slice_index, string_bytes, sum_by, unwrap_or, ℤ, ◌&&◌, ◌==◌}
pub use Rattle.std.specs.Prelude.{◌||◌, ◌↔◌}
pub use Rattle.std.specs.Slice.Iter.{split_callee, split_done, split_rest}
pub use Rattle.std.specs.Str.{str_to_ascii_lowercase}
