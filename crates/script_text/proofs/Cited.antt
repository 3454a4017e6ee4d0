-- The names that the proofs of this library cite of others and of its specs, passed on from one place. Declares nothing.
pub use Rattle.indexmap.specs.IndexSet.{insert_key}
pub use Rattle.mac_words.proofs.Plain.{is_some-map, not_some}
pub use Rattle.mac_words.specs.declared.call.Call.{Call}
pub use Rattle.mac_words.specs.declared.name.FileName.{FileName}
pub use Rattle.mac_words.specs.declared.name.Label.{Label}
pub use Rattle.memchr.specs.Find.{IsFirstByte}
pub use Rattle.script_text.specs.Argument.{Flag, Letters, Nil, Raw, Signed, Value, byte_at, hex_bytes, number_from, number_within}
unfoldable pub use Rattle.script_text.specs.Argument.{argument}
pub use Rattle.script_text.specs.Call.{may_stand, meant, spoken, word_of}
unfoldable pub use Rattle.script_text.specs.Call.{word_spelled}
pub use Rattle.script_text.specs.DeskLog.{end_of, fork_of, launch_of, refusal_of}
pub use Rattle.script_text.specs.Inner.{IsJobKept, IsKept}
pub use Rattle.script_text.specs.Job.{App, File, Input, System, app_name, app_names, file_name, file_names, given_names, has_name}
pub use Rattle.script_text.specs.Job.{input_seen, is_system, may_follow, nothing, with_lines}
unfoldable pub use Rattle.script_text.specs.Job.{job_of, with_line}
pub use Rattle.script_text.specs.JobFacts.{AreApps, AreEventsOf, AreFiles, AreInOrder, all_follow, is_event_of}
pub use Rattle.script_text.specs.Known.{IsKnown, Known, KnownApp, known_files, known_names, known_with, may_have, may_have_at, may_join}
pub use Rattle.script_text.specs.Known.{none_known, put_name, with_file, with_file_at}
pub use Rattle.script_text.specs.Named.{put_named}
pub use Rattle.script_text.specs.Script.{AllAllowed, Makes, Statement, are_allowed, block_of, blocks_seen, first_missing, has_block}
pub use Rattle.script_text.specs.Script.{no_lines, read_from, statement}
unfoldable pub use Rattle.script_text.specs.Script.{read_at, script_of, with_token}
pub use Rattle.script_text.specs.Stating.{spelling}
unfoldable pub use Rattle.script_text.specs.Stating.{job_line, token_line}
unfoldable pub use Rattle.script_text.specs.Token.{after_blanks, token_at}
pub use Rattle.script_text.specs.Transcript.{Bytes, Number, Shown, call_at, end_line, grow_line, hex, launch_line, reply_line, shown_all}
pub use Rattle.script_text.specs.declared.fault.FaultKind.TheVariants.{BadArgument, NotAllowed, UnknownCall}
pub use Rattle.script_text.specs.declared.job.Act.TheVariants.{Quit, Step, Turn}
pub use Rattle.script_text.specs.declared.job.Event.{Event}
pub use Rattle.script_text.specs.declared.job.Event.TheVariants.{Act, Launch, Rest}
pub use Rattle.script_text.specs.declared.job_word.JobWord.{JobWord}
pub use Rattle.script_text.specs.declared.script.Line.{Line}
pub use Rattle.script_text.specs.declared.script_lines.Begun.{Begun}
pub use Rattle.script_text.specs.declared.transcript.TheConstants.{CODE_ROOM, LINE_ROOM}
pub use Rattle.script_text.specs.declared.word.CallWord.{CallWord}
pub use Rattle.std.proofs.Common.{Bool, Err, FitsSigned, List, None, Ok, Option, Some, [], ap, append_assoc, arith, codes, cond, drop}
pub use Rattle.std.proofs.Common.{false, get_or, inl, inr, is_some, length, map, nat_le, negsuc, pos, refl, rules, subst, suc, sym, take}
pub use Rattle.std.proofs.Common.{to_z, to_z-of_z, true, true≢false, vec_capacity, vec_len, w16, zero, ℕ, ℤ, ◌*◌, ◌++◌, ◌+◌, ◌-◌, ◌<◌, ◌^◌}
pub use Rattle.std.proofs.Common.{◌∙◌, ◌∷◌, ◌≡◌, ◌≤◌}
unfoldable pub use Rattle.std.proofs.Math.Utf8.{encode}
pub use Rattle.std.proofs.lemmas.Bool.{and_from, and_parts, cases_lt, eq-eqb, eqb-true, le-ltb, leb-true, lt-ltb, ltb-true, not-true}
pub use Rattle.std.proofs.lemmas.Fmt.{length-decimal-le}
pub use Rattle.std.proofs.lemmas.Grind.{common_steps}
pub use Rattle.std.proofs.lemmas.Iterator.Adapters.{position_from-zero}
pub use Rattle.std.proofs.lemmas.List.{append-nil, length-append, length-map, length_push, map-append}
pub use Rattle.std.proofs.lemmas.List.Elements.{filter_map-append}
pub use Rattle.std.proofs.lemmas.List.Folds.{list_all-append, list_any-append}
pub use Rattle.std.proofs.lemmas.List.Splits.{slice_split_first}
pub use Rattle.std.proofs.lemmas.List.Sums.{position_or_len_is}
pub use Rattle.std.proofs.lemmas.Map.Keys.{IsDistinct-push}
pub use Rattle.std.proofs.lemmas.Map.Made.{lookup-map_values}
pub use Rattle.std.proofs.lemmas.Slice.Eq.{bytes_eq-Decides}
pub use Rattle.std.proofs.lemmas.Str.{IsUtf8-from_is_utf8, is_utf8-from_IsUtf8}
pub use Rattle.std.proofs.lemmas.Str.Parse.{IsNumeralModel, numerals_by_fold}
pub use Rattle.std.specs.BTreeMap.{insert_entry, is_at}
pub use Rattle.std.specs.Char.{is_ascii_digit}
pub use Rattle.std.specs.Cmp.{IsEquivalence, decided}
pub use Rattle.std.specs.Cmp.Lexicographic.{slice_cmp, texts_ties}
pub use Rattle.std.specs.Fmt.{decimal, signed_decimal}
unfoldable pub use Rattle.std.specs.Fmt.{digits}
pub use Rattle.std.specs.List.{cons_option, filter_map, list_all, list_any, onto_first, position, position_from, position_or_len}
pub use Rattle.std.specs.List.{slice_split}
unfoldable pub use Rattle.std.specs.List.{IsDistinct}
pub use Rattle.std.specs.Map.{lookup}
pub use Rattle.std.specs.Option.{option_map}
pub use Rattle.std.specs.Ordering.{is_eq, match_ordering, nat_cmp}
pub use Rattle.std.specs.Prelude.{IsTrue, IsUtf8, bytes_eq, nat_lt, not, slice_set, unwrap_or, ◌&&◌, ◌==◌, ◌||◌}
unfoldable pub use Rattle.std.specs.Str.{chars, is_utf8}
pub use Rattle.std.specs.Str.Lines.{lines, strip_carriage_return}
pub use Rattle.std.specs.declared.cmp.Ordering.{Ordering}
pub use Rattle.std.specs.declared.cmp.Ordering.TheVariants.{Equal, Greater, Less}
