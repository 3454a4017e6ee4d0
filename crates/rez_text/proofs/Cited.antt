-- The names that the proofs of this library cite of others and of its specs, passed on from one place. Declares nothing.
pub use Rattle.byteorder.specs.Endian.{big_bytes, big_number}
pub use Rattle.fork_format.proofs.Clear.{spelled_clear}
pub use Rattle.fork_format.proofs.Placing.{is_eq-nat_cmp}
pub use Rattle.fork_format.proofs.Spelled.{spelled_references, spelled_types}
pub use Rattle.fork_format.proofs.Standing.{kind_again}
pub use Rattle.fork_format.proofs.Vectors.{a_ref}
pub use Rattle.fork_format.specs.Canonical.{are_distinct, clear, clear_group, clear_ref, has_refs}
pub use Rattle.fork_format.specs.Content.{Content, Group, IsContent, IsGroup, IsRef, Ref}
pub use Rattle.fork_format.specs.View.{view_group, view_ref}
pub use Rattle.mac_roman.proofs.Encoding.{roman_again, scalar_one}
pub use Rattle.mac_roman.proofs.PlainText.{printed_whole}
pub use Rattle.mac_roman.specs.Charset.{character}
pub use Rattle.mac_roman.specs.Roman.{bytes_of, from_roman, to_roman}
pub use Rattle.mac_roman.specs.Table.{char_of}
pub use Rattle.mac_roman.specs.declared.charset.Charset.{Charset}
pub use Rattle.mac_roman.specs.declared.charset.Charset.TheVariants.{Ascii, Utf8}
pub use Rattle.mac_words.specs.Digits.{upper_digit}
pub use Rattle.plain_laws.proofs.Bytes.{bytes-append, bytes-drop, bytes-take}
pub use Rattle.plain_laws.proofs.Elements.{each-append}
pub use Rattle.rez_statements.specs.Types.{Declared, datum_stated, with_type}
pub use Rattle.rez_statements.specs.declared.fault.StatementFault.{StatementFault}
pub use Rattle.rez_text.specs.Ascii.{base, begins_word, digit_in, ends_line, is_digit, is_letter, line_of, quote_byte}
pub use Rattle.rez_text.specs.Bytes.{AreBytes, HasBytes, IsOfBytes}
pub use Rattle.rez_text.specs.Coding.{coding_comment, coding_words, decoded, last_line, line_with, order_mark, with_line}
unfoldable pub use Rattle.rez_text.specs.Coding.{as_roman, is_coded}
pub use Rattle.rez_text.specs.Groups.{is_of}
pub use Rattle.rez_text.specs.Lexing.{after_word, by_digit, closed, escape_by, escape_grown, escape_on, escaped_byte, grown, number_ended}
pub use Rattle.rez_text.specs.Lexing.{number_on, step_in, string_opened}
unfoldable pub use Rattle.rez_text.specs.Lexing.{after_zero, between, body, declaring, dollar, escape, escape_number, escape_zero, hex_half}
unfoldable pub use Rattle.rez_text.specs.Lexing.{hex_string, in_comment, in_number, in_word, line_comment, prefixed, quoted, slash, star}
unfoldable pub use Rattle.rez_text.specs.Lexing.{step}
pub use Rattle.rez_text.specs.Printing.{area_comment, area_line, area_lines, area_remark, attribute_words, attributes_argument}
pub use Rattle.rez_text.specs.Printing.{attributes_comment, attributes_remark, byte_hex, data_line, data_lines, escaped, gap}
pub use Rattle.rez_text.specs.Printing.{group_statements, grouped, hex_column, in_quotes, lettered_source, line_count, margin}
pub use Rattle.rez_text.specs.Printing.{name_argument, shown, stands, statement, text_column, word_for}
unfoldable pub use Rattle.rez_text.specs.Printing.{source_of, statement_head, type_literal}
pub use Rattle.rez_text.specs.Reading.{FailsAt, GivesAt, Lacking, Wrong, at_line, begun_on, ended, ended_in, fault_at, fault_line}
pub use Rattle.rez_text.specs.Reading.{first_line, is_whole, later, lines_at, read_from, read_made, stated, unless_lacking}
unfoldable pub use Rattle.rez_text.specs.Reading.{finish, read, read_declarations, read_roman, read_roman_declarations}
pub use Rattle.rez_text.specs.Remarks.{after_blanks, begins, byte_of, comment_at, hex_from, hex_value, is_blank, with_area}
pub use Rattle.rez_text.specs.Remarks.{with_map_attributes}
unfoldable pub use Rattle.rez_text.specs.Remarks.{bytes_after, comment, remarked}
pub use Rattle.rez_text.specs.Scopes.{ends, ends_last, inside, keeps, outside, scope_after}
unfoldable pub use Rattle.rez_text.specs.Scopes.{scope_step}
pub use Rattle.rez_text.specs.State.{Files, LeadsTo, Said, State, come_to, gather, in_mode, no_content, no_ref, start, state_of, unnamed}
pub use Rattle.rez_text.specs.State.{with_content, with_ref, with_types, ◌>>=◌}
pub use Rattle.rez_text.specs.Tokens.{attribute, attributes_in, datum_at, declaration_begun, file_named, mark_at, named, number_at, of_text}
pub use Rattle.rez_text.specs.Tokens.{opened, refused, statement_begun, string_at, type_at, with_attributes, with_datum, word_at}
unfoldable pub use Rattle.rez_text.specs.Tokens.{datum, mark, number, resource_body, string, type_statement, type_token, word}
pub use Rattle.rez_text.specs.View.{bytes_in, group_said, names_of, ref_said}
pub use Rattle.rez_text.specs.declared.fault.FaultKind.{FaultKind}
pub use Rattle.rez_text.specs.declared.fault.FileName.{FileName}
pub use Rattle.rez_text.specs.declared.fault.StepFault.{StepFault}
pub use Rattle.rez_text.specs.declared.lettering.Lettering.{Lettering}
pub use Rattle.rez_text.specs.declared.lettering.Lettering.TheVariants.{Plain, Roman}
pub use Rattle.rez_text.specs.declared.line.Lines.{Lines}
pub use Rattle.rez_text.specs.declared.mode.Form.{Form}
pub use Rattle.rez_text.specs.declared.mode.Mode.{Mode}
pub use Rattle.rez_text.specs.declared.mode.Place.{Place}
pub use Rattle.rez_text.specs.declared.mode.Quote.{Quote}
pub use Rattle.rez_text.specs.declared.mode.Radix.{Radix}
pub use Rattle.rez_text.specs.declared.scope.Scope.{Scope}
pub use Rattle.rez_text.specs.declared.source.SourceGroup.{SourceGroup}
pub use Rattle.rez_text.specs.declared.source.SourceRef.{SourceRef}
pub use Rattle.std.proofs.Common.{Bool, Err, FitsSigned, IfSome, List, None, Ok, Option, Result, Some, [], ap, append-nil, append_assoc}
pub use Rattle.std.proofs.Common.{arith, bit_and, bit_or, codes, cond, drop, eqb-true, false, get_or, inl, inr, le-leb, le-ltb, length, map}
pub use Rattle.std.proofs.Common.{min, nat_le, nat_lt, neg_ℤ, negsuc, not, pos, refl, replicate, rules, set, subst, suc, sym, take, true}
pub use Rattle.std.proofs.Common.{zero, ℕ, ℤ, ◌%◌, ◌&&◌, ◌*◌, ◌++◌, ◌+◌, ◌-◌, ◌/◌, ◌<◌, ◌==◌, ◌^◌, ◌||◌, ◌∙◌, ◌∷◌, ◌≡◌, ◌≢◌, ◌≤◌, ◌⊎◌}
pub use Rattle.std.proofs.Math.Seq.{take-add}
pub use Rattle.std.proofs.lemmas.Bool.{agree_below, agree_below_at, and_parts, and_right, eq-eqb, ltb-true, not-true, or_right}
pub use Rattle.std.proofs.lemmas.Bool.Decides.{eqb_tells}
pub use Rattle.std.proofs.lemmas.Fmt.{decimal_by_steps}
pub use Rattle.std.proofs.lemmas.Int.{to_z-of_z}
pub use Rattle.std.proofs.lemmas.Iterator.Adapters.{position_from-zero}
pub use Rattle.std.proofs.lemmas.List.{at_drop_all, at_drop_more, drop-map, map-append, take_all}
pub use Rattle.std.proofs.lemmas.List.Concat.{flat_map-append}
pub use Rattle.std.proofs.lemmas.Str.{IsUtf8-from_is_utf8, chars_from_encodes, is_utf8-from_IsUtf8}
pub use Rattle.std.specs.BTreeMap.{get}
pub use Rattle.std.specs.Fmt.{decimal, signed_decimal}
unfoldable pub use Rattle.std.specs.Fmt.{digits}
pub use Rattle.std.specs.Int.{w16}
pub use Rattle.std.specs.List.{AllByRecursion, flat_map, list_all, position, position_from}
pub use Rattle.std.specs.Ordering.{is_eq, nat_cmp}
pub use Rattle.std.specs.Prelude.{bytes_eq}
pub use Rattle.std.specs.Str.{IsUtf8, all_scalars, chars, is_utf8}
pub use Rattle.std.specs.Str.Lossy.{utf8_valid_len}
