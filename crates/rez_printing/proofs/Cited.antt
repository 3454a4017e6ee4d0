-- The names that the proofs of this library cite of others and of its specs, passed on from one place. Declares nothing.
pub use Rattle.rez_printing.specs.Layouts.{gap_next}
pub use Rattle.rez_printing.specs.Leads.{showing_of}
pub use Rattle.rez_printing.specs.Pieces.{byte_hex, escaped, hex_from, in_lines, integer_text, more_rows, named_text, signed_number}
unfoldable pub use Rattle.rez_printing.specs.Pieces.{array_comment, binary_number, element_comment, fill_comment, hex_number, hex_text}
unfoldable pub use Rattle.rez_printing.specs.Pieces.{in_quotes, picture_text, points, row_text, string_text}
pub use Rattle.rez_printing.specs.Showing.{Showing, next_of, numbered, shown_block, shown_elements, shown_fields, shown_numbers}
pub use Rattle.rez_printing.specs.Showing.{shown_parts, stated, with_gap}
unfoldable pub use Rattle.rez_printing.specs.Showing.{closed, commented, counted_at, filled, next_number, next_value, opened, passed_count}
unfoldable pub use Rattle.rez_printing.specs.Showing.{shown, shown_array, shown_bits, shown_coordinates, shown_fill, shown_integer}
unfoldable pub use Rattle.rez_printing.specs.Showing.{shown_switch, shown_text}
pub use Rattle.rez_printing.specs.TypeText.{array_counted, block_text, cases_text, counts_past, fields_from, fields_text, numbers_from}
pub use Rattle.rez_printing.specs.TypeText.{parts_text, texts_from}
unfoldable pub use Rattle.rez_printing.specs.TypeText.{array_text, array_word, case_word, constant_named, count_head, count_text}
unfoldable pub use Rattle.rez_printing.specs.TypeText.{declared_text, fixed_text, in_brackets, open_text, string_word, switch_text}
unfoldable pub use Rattle.rez_printing.specs.TypeText.{tailed_text, type_word}
pub use Rattle.rez_printing.specs.declared.layout.Layout.{Layout}
pub use Rattle.rez_printing.specs.declared.style.Style.{Style}
pub use Rattle.rez_types.proofs.Turns.{above, left}
pub use Rattle.rez_types.specs.Encoding.{more_in}
pub use Rattle.rez_types.specs.Fields.{Align, Array, Constant, Count, Counted, Declaration, Field, Fill, FillBits, Fixed, Integer}
pub use Rattle.rez_types.specs.Fields.{NamedNumber, Point, Rect, Run, Switch, Text}
pub use Rattle.rez_types.specs.Options.{◌>>=◌}
pub use Rattle.rez_types.specs.Values.{Value}
pub use Rattle.rez_types.specs.View.{block_of, blocks_of, case_of, fields_of, number_of, part_of, text_of}
pub use Rattle.rez_types.specs.declared.declaration.Block.{Block}
pub use Rattle.std.proofs.Common.{List, None, Option, Some, [], ap, append-nil, append_assoc, arith, codes, drop, false, get_or}
pub use Rattle.std.proofs.Common.{if◌then◌else◌, length, map, refl, rules, sym, true, ℕ, ◌*◌, ◌++◌, ◌+◌, ◌-◌, ◌<◌, ◌∙◌, ◌∷◌, ◌≡◌, ◌≤◌}
pub use Rattle.std.proofs.lemmas.Option.{slice_get-map, slice_get_past, slice_get_read}
unfoldable pub use Rattle.std.specs.Fmt.{digits}
pub use Rattle.std.specs.List.{flat_map}
pub use Rattle.std.specs.Prelude.{option_map, slice_get, take}
