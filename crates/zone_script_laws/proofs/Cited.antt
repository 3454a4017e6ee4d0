-- The names that the proofs of this library cite of others and of its specs, passed on from one place. Declares nothing.
pub use Rattle.applications.specs.Alone.{run_alone}
pub use Rattle.applications.specs.Names.{Bindings, bind, bound_to}
pub use Rattle.applications.specs.Step.{Course, Ends, after_asking, asked_for, continued, course_of, ended, joined, names_given}
pub use Rattle.applications.specs.Step.{number_given, step, step_in, unless_over}
pub use Rattle.applications.specs.Trying.{Blocks, Running, code_told, is_full, launched, nowhere, once}
pub use Rattle.block_store.proofs.Regroup.Packed.{tidy-below}
pub use Rattle.block_store.proofs.Zone.Absence.{freed-absent}
pub use Rattle.block_store.proofs.Zone.Apart.{barrier-alone, tidy-tidy}
pub use Rattle.block_store.proofs.Zone.Joining.{stands}
pub use Rattle.block_store.proofs.Zone.Parted.{tidy-parted}
pub use Rattle.block_store.proofs.Zone.Passing.{none-append}
pub use Rattle.block_store.proofs.Zone.Spots.{free-some}
pub use Rattle.block_store.proofs.Zone.Tidy.{has-tidy}
pub use Rattle.block_store.proofs.Zone.Totals.{total-append}
pub use Rattle.block_store.specs.Block.{Block, Free, Masters, Nonrelocatable, Relocatable, add, count, free, is_masters, is_nonrelocatable}
pub use Rattle.block_store.specs.Block.{is_relocatable, is_room, no_flags, size, sizes, tidy}
pub use Rattle.block_store.specs.Compact.{least_or_last}
pub use Rattle.block_store.specs.Grow.{freed}
pub use Rattle.block_store.specs.Inner.Stretch.{is_free}
pub use Rattle.block_store.specs.Rest.{Site}
pub use Rattle.block_store.specs.Room.{Spot, count_of, filled, may_be_purged, purge, put_at_base, put_in_place, raised, spot}
pub use Rattle.block_store.specs.Run.{RunSpot, Segments, change_run, has, has_free, in_run, low, lowest_run, run_raised, run_spot, segments}
pub use Rattle.block_store.specs.Run.{settle}
pub use Rattle.block_store.specs.declared.flags.Flags.{Flags}
pub use Rattle.heap_calls.proofs.Exchanged.{spot-parted}
pub use Rattle.heap_calls.proofs.Promises.Knowing.{pushed}
pub use Rattle.heap_calls.proofs.Room.Packing.{tidy-left}
pub use Rattle.heap_calls.specs.Answer.{Answer, Held, change_flags, flagged, for_found, held_at, known_as, nothing, noting}
pub use Rattle.heap_calls.specs.Serving.{Zeros, telling}
pub use Rattle.heap_calls.specs.Table.{Asked}
pub use Rattle.heap_calls.specs.Busy.{idle, known_bars, pointer_bars, unless}
pub use Rattle.heap_calls.specs.Pointers.{dispose_pointer, pointed}
pub use Rattle.heap_calls.specs.Rows.{heap_after}
pub use Rattle.heap_calls.specs.State.{Disposed, Handle, Meaning, Memory, Plain, Pointer, State, all_slots, fresh_memory, used_slots}
pub use Rattle.heap_calls.specs.State.{uses_slot}
pub use Rattle.heap_calls.specs.Row.{done}
pub use Rattle.heap_calls.specs.Table.{served}
pub use Rattle.mac_words.specs.Size.{padded, phys}
pub use Rattle.mac_words.specs.Told.{Done, Given, Told}
pub use Rattle.mac_words.specs.declared.call.Call.{Call}
pub use Rattle.mac_words.specs.declared.call.ControlCall.{ControlCall}
pub use Rattle.mac_words.specs.declared.call.HeapCall.{HeapCall}
pub use Rattle.mac_words.specs.declared.code.OsErr.{OsErr}
pub use Rattle.mac_words.specs.declared.code.TheConstants.OsErr.{NIL_HANDLE, NO_ERR}
pub use Rattle.mac_words.specs.declared.resource_call.ResourceCall.{ResourceCall}
pub use Rattle.mac_words.specs.declared.segment_call.SegmentCall.{SegmentCall}
pub use Rattle.moves.specs.Moves.{Base, Move, Purge, Put, Search, did, moved}
pub use Rattle.moves.specs.Seeking.{Sought, if_fits, no_room, seek, seek_slot, sought, then_seek}
pub use Rattle.plain_laws.proofs.Elements.{each-append}
pub use Rattle.real_zone.proofs.Walking.{next, passes}
pub use Rattle.real_zone.proofs.Zones.{zone_keeps}
pub use Rattle.real_zone.specs.Blocks.{has_room, is_passable}
unfoldable pub use Rattle.real_zone.specs.Blocks.{places}
pub use Rattle.real_zone.specs.Form.{header_size}
pub use Rattle.real_zone.specs.Header.{owner_at, tag_at}
pub use Rattle.real_zone.specs.Lists.{first, is_empty}
pub use Rattle.real_zone.specs.Rules.{kind_rule, length_rule, master_at}
unfoldable pub use Rattle.real_zone.specs.Rules.{block_rules, handle_rule, is_master_place, keeps_rules, owner_rule}
unfoldable pub use Rattle.real_zone.specs.Seen.{block_at, kind_of, master_of}
pub use Rattle.real_zone.specs.Zone.{damages, from_zone, has_limit, has_record, is_zone, limit_of, zone_bytes}
unfoldable pub use Rattle.real_zone.specs.Zone.{is_zone_at}
pub use Rattle.real_zone.specs.declared.fault.Damage.{Damage}
pub use Rattle.real_zone.specs.declared.fault.Rule.{Rule}
pub use Rattle.real_zone.specs.declared.form.Form.{Form}
pub use Rattle.real_zone.specs.declared.form.Tag.{Tag}
pub use Rattle.real_zone_view.specs.Answers.{answer_text, damage_or, fault_to, form_for, room_fault}
unfoldable pub use Rattle.real_zone_view.specs.Answers.{dump_fault}
pub use Rattle.real_zone_view.specs.declared.dump.DumpFault.{DumpFault}
pub use Rattle.real_zone_view.specs.declared.dump.DumpFault.TheVariants.{TooLarge, TooLong}
pub use Rattle.real_zone_view.specs.declared.dump.Place.{Place}
pub use Rattle.script_text.proofs.Numerals.{numerals}
pub use Rattle.script_text.proofs.Rows.{says}
pub use Rattle.script_text.specs.Argument.{Kind, Label, Letters, Number, Size, Value, arguments, begins_label, is_label_byte, number_from}
pub use Rattle.script_text.specs.Argument.{number_within, value}
unfoldable pub use Rattle.script_text.specs.Argument.{argument}
pub use Rattle.script_text.specs.Call.{kinds, meant}
unfoldable pub use Rattle.script_text.specs.Call.{word_spelled}
pub use Rattle.script_text.specs.Reading.{◌>>=◌}
pub use Rattle.script_text.specs.Script.{Above, Makes, Said, ScriptParts, Spelled, Statement, after_all, at_line, lesser, longest_line}
pub use Rattle.script_text.specs.Script.{no_lines, read_from, said_as, sets_missing, spelled, statement, unless_unfinished, with_statement}
pub use Rattle.script_text.specs.Script.{with_text}
unfoldable pub use Rattle.script_text.specs.Script.{read_at, script_of, with_token}
pub use Rattle.script_text.specs.Token.{cut_token, is_blank, may_end, place, token_len}
unfoldable pub use Rattle.script_text.specs.Token.{after_blanks, token_at}
pub use Rattle.script_text.specs.declared.fault.FaultKind.{FaultKind}
pub use Rattle.script_text.specs.declared.fault.FaultKind.TheVariants.{BadArgument, LongLine, UnknownCall}
pub use Rattle.script_text.specs.declared.word.CallWord.{CallWord}
pub use Rattle.std.proofs.Common.{Bool, Err, List, None, Ok, Option, Result, Some, [], add-one, ap, append-nil, append_assoc, arith}
pub use Rattle.std.proofs.Common.{bytes_eq, codes, cond, count_by, decimal, drop, false, get_or, length, length-append, length-drop}
pub use Rattle.std.proofs.Common.{length-take-le, map, nat_le, nat_lt, not, refl, replicate, slice_get, slice_set, subst, suc, sym, take}
pub use Rattle.std.proofs.Common.{true, true≢false, zero, ℕ, ◌%◌, ◌&&◌, ◌*◌, ◌++◌, ◌+◌, ◌-◌, ◌/◌, ◌<◌, ◌==◌, ◌^◌, ◌||◌, ◌∙◌, ◌∷◌, ◌≡◌, ◌≤◌}
pub use Rattle.std.proofs.Math.Seq.{drop-append_seam, take-append_seam}
pub use Rattle.std.proofs.lemmas.Bool.{and_from, and_parts, cond-false, cond-true, eqb-false, eqb-true, false_from_ne_true, le-leb, le-ltb}
pub use Rattle.std.proofs.lemmas.Bool.{leb-true, ltb-false, ltb-true, ne_eqb, not-true, or_from, or_parts}
pub use Rattle.std.proofs.lemmas.Bool.Decides.{Decides-eqb, nat_tests}
pub use Rattle.std.proofs.lemmas.Fmt.{decimal_nonempty, digits_decimal, digits_value-decimal, length-decimal-le}
pub use Rattle.std.proofs.lemmas.List.{length-replicate, map-append}
pub use Rattle.std.proofs.lemmas.List.Folds.{list_all-append}
pub use Rattle.std.proofs.lemmas.List.Splits.{length-slice_split, slice_split-cons_no}
pub use Rattle.std.proofs.lemmas.List.Sums.{sum_by_push}
pub use Rattle.std.proofs.lemmas.Option.{none-some}
pub use Rattle.std.proofs.lemmas.Slice.Eq.{bytes_eq-Decides}
pub use Rattle.std.specs.Char.{is_ascii_alphabetic, is_ascii_digit}
pub use Rattle.std.specs.List.{AllByRecursion, list_all, onto_first, position_or_len, slice_split}
pub use Rattle.std.specs.Option.{ok_or, option_map, option_or, option_to_list}
pub use Rattle.std.specs.Prelude.{find, flat_map, is_some, option_and_then, slice_index, unwrap_or}
pub use Rattle.std.specs.Str.Lines.{lines, lines_of_parts, strip_carriage_return}
pub use Rattle.zone_script_laws.specs.Runs.{Runs, asked_by, bound_anew, bound_by}
pub use Rattle.zone_script_laws.specs.Shown.{asks_script, parts_at}
pub use Rattle.zone_script_laws.specs.Spoken.{AllDone, Leaves, States, said_of}
pub use Rattle.zone_script_laws.specs.Stated.{first_line, stated_from}
pub use Rattle.zone_scripts.specs.Copied.{fits, part_as, part_of, parts_in, parts_of}
pub use Rattle.zone_scripts.specs.Hex.{hex_digit}
unfoldable pub use Rattle.zone_scripts.specs.Hex.{digit_at, hex_text}
pub use Rattle.zone_scripts.specs.Lines.{DisposePtr, HLock, HPurge, HUnlock, Line, MoreMasters, NamesDiffer, NewHandle, NewPtr, Others}
pub use Rattle.zone_scripts.specs.Lines.{ending, lines_of, making, name_of, named}
pub use Rattle.zone_scripts.specs.Parts.{Fixed, Gap, Part, Relocated, block_of, bytes_of, handle_of, handles, logical, more_masters, needed}
pub use Rattle.zone_scripts.specs.Parts.{numbered, partition_of, physical, zone_of}
pub use Rattle.zone_scripts.specs.Text.{head_text, line_text, lines_text, script_text}
unfoldable pub use Rattle.zone_scripts.specs.Text.{bits_phrase, named_text, notes_text, size_phrase, sized_text, zone_phrase}
