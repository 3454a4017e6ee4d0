-- The names that the proofs of this library cite of others and of its specs, passed on from one place. Declares nothing.
pub use Rattle.byteorder.specs.Endian.{big_bytes, big_number}
pub use Rattle.byteorder.specs.Numbers.{big_from-append}
pub use Rattle.plain_laws.proofs.Mapped.{prefix_len-map}
pub use Rattle.rez_types.specs.Decoding.{Decoding, begins, bits_of, counted, decoded, decoded_alone, decoded_array, decoded_coordinates}
pub use Rattle.rez_types.specs.Decoding.{decoded_elements, decoded_field, decoded_fields, decoded_part, decoded_parts, decoded_text}
pub use Rattle.rez_types.specs.Decoding.{decoded_until, ends_before, has_key, is_zero, key_in, multiple, padding, unread, width_of}
pub use Rattle.rez_types.specs.Decoding.{with_count, with_counts}
unfoldable pub use Rattle.rez_types.specs.Decoding.{decoded_bytes, decoded_cstring, decoded_fill, decoded_pstring, decoded_run}
unfoldable pub use Rattle.rez_types.specs.Decoding.{decoded_switch, next, next_number, put, values_of_datum}
pub use Rattle.rez_types.specs.Encoding.{Encoding, encoded, encoded_alone, encoded_coordinates, encoded_element, encoded_elements}
pub use Rattle.rez_types.specs.Encoding.{encoded_field, encoded_fields, encoded_part, encoded_parts, has_no_zero, is_element, joined}
pub use Rattle.rez_types.specs.Encoding.{may_have, more_in, next_of, stated, unwritten, written_text}
unfoldable pub use Rattle.rez_types.specs.Encoding.{datum_of_values, encoded_array, encoded_fill, encoded_run, encoded_switch, encoded_text}
unfoldable pub use Rattle.rez_types.specs.Encoding.{next_value, write}
pub use Rattle.rez_types.specs.Fields.{Align, Array, ArrayEnd, Before, Case, Constant, Count, Counted, Declaration, Field, Fill, FillBits}
pub use Rattle.rez_types.specs.Fields.{Fixed, Integer, KeyPlace, Part, Point, Rect, Resource, Run, Switch, Text}
pub use Rattle.rez_types.specs.Leads.{decoding_of, encoding_of}
pub use Rattle.rez_types.specs.Options.{given, ◌>>=◌}
pub use Rattle.rez_types.specs.Values.{Value}
pub use Rattle.rez_types.specs.View.{blocks_of, case_of, end_of, fields_of, part_of}
pub use Rattle.rez_types.specs.Whole.{AreBytes, bits_in, has_whole_runs, is_whole}
pub use Rattle.rez_types.specs.declared.declaration.Boundary.{Boundary}
pub use Rattle.rez_types.specs.declared.declaration.TextEnd.{TextEnd}
pub use Rattle.std.proofs.Common.{Bool, List, None, Option, Some, [], ap, append_assoc, ap₂, arith, cond, drop, false, if◌then◌else◌}
pub use Rattle.std.proofs.Common.{length, length-append, map, nat_le, nat_lt, not, refl, rules, subst, suc, sym, take, tests, true, zero, ℕ}
pub use Rattle.std.proofs.Common.{◌%◌, ◌&&◌, ◌*◌, ◌++◌, ◌+◌, ◌-◌, ◌/◌, ◌<◌, ◌==◌, ◌^◌, ◌||◌, ◌∙◌, ◌∷◌, ◌≡◌, ◌≤◌}
pub use Rattle.std.proofs.Math.Nat.{add-mod_right, div-div-eq-div-mul, div-eq_of_lt, div-le_self, div-one, mod-eq_of_lt, mod-lt, mod_self}
pub use Rattle.std.proofs.Math.Pow.{pow_mono}
pub use Rattle.std.proofs.Math.Seq.{drop-append_seam}
pub use Rattle.std.proofs.lemmas.Bool.{and_parts, eq-eqb, eqb-true, le-leb, le-ltb, leb-true, lt-ltb, ltb-false, ltb-true, not_from_false}
pub use Rattle.std.proofs.lemmas.Bool.{true≢false}
pub use Rattle.std.proofs.lemmas.Iterator.{YieldsList-from_slice}
pub use Rattle.std.proofs.lemmas.Iterator.Search.{position_from_yields_List}
pub use Rattle.std.proofs.lemmas.List.{append-nil, length-map, length-take-le, nil_from_length, take-append-drop}
pub use Rattle.std.proofs.lemmas.Nat.{div-add-mod', pow-add, pow_pos}
pub use Rattle.std.specs.List.{list_all, list_any, position, prefix_len}
pub use Rattle.std.specs.Prelude.{slice_get}
