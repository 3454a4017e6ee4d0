-- The names that the proofs of this library cite of others and of its specs, passed on from one place. Declares nothing.
pub use Rattle.rez_declarations.specs.Declaring.{As, Cases, Declared, cases_read, drafted_at, ends_here, fields_in, fields_read, modified}
pub use Rattle.rez_declarations.specs.Declaring.{modifier_in, plain, string_on, string_part, text_named, with_modifier}
unfoldable pub use Rattle.rez_declarations.specs.Declaring.{array_read, bitstring_read, case_read, count_read, declared, field_read}
unfoldable pub use Rattle.rez_declarations.specs.Declaring.{integer_read, less_one, likened, name_in_parentheses, number_named}
unfoldable pub use Rattle.rez_declarations.specs.Declaring.{numbers_named, numbers_of, pattern_named, statement, string_read, switch_read}
unfoldable pub use Rattle.rez_declarations.specs.Declaring.{text_read, texts_named, texts_of, type_read}
pub use Rattle.rez_declarations.specs.Drafting.{Draft, closed, no_draft}
pub use Rattle.rez_declarations.specs.Drafts.{draft_of}
pub use Rattle.rez_declarations.specs.Parses.{cases_of, parsing_of}
pub use Rattle.rez_declarations.specs.Parsing.{Parsing, is_mark, is_word_in, lexeme, passed, refused, ◌>>=◌}
unfoldable pub use Rattle.rez_declarations.specs.Parsing.{bracketed, constant, marked, named}
pub use Rattle.rez_declarations.specs.Results.{unless}
pub use Rattle.rez_declarations.specs.Sound.{case_names, cases_judged, each_counts, fault_in, fault_of, field_judged, fields_judged}
pub use Rattle.rez_declarations.specs.Sound.{has_twin_keys, has_twins, is_name, is_run, is_text, is_wide, key_after, key_among, kind_judged}
pub use Rattle.rez_declarations.specs.Sound.{least_case, limits_judged, longer, no_fields, number_names, parts_judged, run_judged}
pub use Rattle.rez_declarations.specs.Sound.{shapes_of, text_names, uses_of}
unfoldable pub use Rattle.rez_declarations.specs.Sound.{block_judged, judged}
pub use Rattle.rez_declarations.specs.declared.modified.Modified.{Modified}
pub use Rattle.rez_declarations.specs.declared.shape.Shape.{Shape}
pub use Rattle.rez_declarations.specs.declared.type_fault.TypeFault.{TypeFault}
pub use Rattle.rez_declarations.specs.declared.unsound.Unsound.{Unsound}
pub use Rattle.rez_tokens.specs.Tokens.{Function, Lexeme, Literal, Mark, Number, Token, Word}
pub use Rattle.rez_types.proofs.Declared.{of_fields, with_block}
pub use Rattle.rez_types.proofs.Mapped.{any_map, position_map}
pub use Rattle.rez_types.proofs.Turns.{above, left}
pub use Rattle.rez_types.specs.Decoding.{has_key, width_of}
unfoldable pub use Rattle.rez_types.specs.Decoding.{decoded_bytes, decoded_cstring, decoded_fill, decoded_pstring, decoded_run}
unfoldable pub use Rattle.rez_types.specs.Decoding.{decoded_switch, next, next_number, put, values_of_datum}
unfoldable pub use Rattle.rez_types.specs.Encoding.{datum_of_values, encoded_array, encoded_fill, encoded_run, encoded_switch, encoded_text}
unfoldable pub use Rattle.rez_types.specs.Encoding.{next_value, write}
pub use Rattle.rez_types.specs.Fields.{Align, Array, Before, Case, Constant, Count, Counted, Declaration, Field, Fill, FillBits, Fixed}
pub use Rattle.rez_types.specs.Fields.{Integer, NamedNumber, NamedText, Part, Point, Rect, Resource, Run, Switch, Text}
pub use Rattle.rez_types.specs.Values.{Value}
pub use Rattle.rez_types.specs.View.{blocks_of, case_of, fields_of, number_of, part_of, place_of, text_of}
pub use Rattle.rez_types.specs.Whole.{bits_in, has_whole_runs, is_whole}
pub use Rattle.std.proofs.Common.{Bool, Err, List, None, Ok, Result, Some, [], ap, arith, codes, drop, false, if◌then◌else◌, length, map}
pub use Rattle.std.proofs.Common.{nat_lt, not, refl, replicate, rules, sym, take, tests, true, ℕ, ◌&&◌, ◌*◌, ◌++◌, ◌+◌, ◌-◌, ◌<◌, ◌==◌}
pub use Rattle.std.proofs.Common.{◌||◌, ◌∙◌, ◌∷◌, ◌≡◌, ◌≤◌}
pub use Rattle.std.proofs.lemmas.Iterator.{YieldsList-from_slice}
pub use Rattle.std.proofs.lemmas.Iterator.Search.{any_from_yields_List, position_from_yields_List}
pub use Rattle.std.proofs.lemmas.List.{map_push}
pub use Rattle.std.specs.List.{list_all}
pub use Rattle.std.specs.Prelude.{Vec}
pub use Rattle.std.specs.declared.alloc.Global.{Global}
