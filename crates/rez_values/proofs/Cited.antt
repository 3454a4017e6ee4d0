-- The names that the proofs of this library cite of others and of its specs, passed on from one place. Declares nothing.
pub use Rattle.rez_tokens.specs.Tokens.{Lexeme, Token}
pub use Rattle.rez_types.proofs.Declared.{of_fields, with_block}
pub use Rattle.rez_types.proofs.Mapped.{position_map}
pub use Rattle.rez_types.proofs.Turns.{above, left}
pub use Rattle.rez_types.specs.Fields.{Align, Array, Before, Constant, Count, Counted, Declaration, Field, Fill, FillBits, Fixed, Integer}
pub use Rattle.rez_types.specs.Fields.{NamedNumber, Rect, Run, Switch, Text}
pub use Rattle.rez_types.specs.Leads.{same}
pub use Rattle.rez_types.specs.Values.{Value}
pub use Rattle.rez_types.specs.View.{blocks_of, case_of, fields_of, number_of, part_of, text_of, value_of}
pub use Rattle.rez_values.specs.Stating.{coordinates_taken, is_number_named, is_text_named, parts_taken, string_in, strings_on}
unfoldable pub use Rattle.rez_values.specs.Stating.{align_taken, corners_taken, count_taken, fill_bits_taken, fill_taken, integer_taken}
unfoldable pub use Rattle.rez_values.specs.Stating.{text_taken}
pub use Rattle.rez_values.specs.Taken.{block_by, block_taken, elements_taken, fields_taken, is_case_named, last_line}
unfoldable pub use Rattle.rez_values.specs.Taken.{array_taken, begun, closes, element_taken, finished, switch_taken, taken}
pub use Rattle.rez_values.specs.Taking.{Fault, Taking, bare, lexeme, passed, ◌>>=◌}
unfoldable pub use Rattle.rez_values.specs.Taking.{closed, marked, number, opened, put, separated, trailed}
pub use Rattle.rez_values.specs.View.{Takes, TakesTo, taking_of, tokens_of}
pub use Rattle.rez_values.specs.declared.fault.TakeFault.{TakeFault}
pub use Rattle.rez_values.specs.declared.fault.ValueFault.{ValueFault}
pub use Rattle.std.proofs.Common.{Err, List, None, Ok, Result, Some, [], ap, codes, drop, false, if◌then◌else◌, length, map, refl}
pub use Rattle.std.proofs.Common.{replicate, rules, slice_get, subst, sym, tests, true, ℕ, ◌*◌, ◌++◌, ◌+◌, ◌-◌, ◌<◌, ◌∙◌, ◌∷◌, ◌≡◌}
pub use Rattle.std.proofs.lemmas.Iterator.{YieldsList-from_slice}
pub use Rattle.std.proofs.lemmas.Iterator.Search.{position_from_yields_List}
pub use Rattle.std.proofs.lemmas.List.{map-set}
