-- The names that the proofs of this library cite of others and of its specs, passed on from one place. Declares nothing.
pub use Rattle.byteorder.specs.Endian.{big_number}
pub use Rattle.fork_format.proofs.Clear.{spelled_clear}
pub use Rattle.fork_format.proofs.Spelled.{spelled_references, spelled_types}
pub use Rattle.fork_format.specs.Canonical.{are_distinct, clear, has_refs}
pub use Rattle.fork_format.specs.Content.{Content, Group, IsContent, IsGroup, IsRef, Ref}
pub use Rattle.fork_format.specs.View.{view_group, view_ref}
pub use Rattle.mac_roman.specs.Roman.{from_roman}
pub use Rattle.rez_declarations.specs.Declaring.{Stated}
pub use Rattle.rez_printing.specs.Showing.{shown}
unfoldable pub use Rattle.rez_printing.specs.TypeText.{declared_text, open_text, tailed_text, type_word}
pub use Rattle.rez_printing.specs.declared.style.Style.{Style}
pub use Rattle.rez_statements.specs.Types.{Declared, Fault, datum_by, declares, in_force}
unfoldable pub use Rattle.rez_statements.specs.Types.{datum_stated, with_type}
pub use Rattle.rez_statements.specs.View.{declared_of, types_of}
pub use Rattle.rez_text.proofs.Again.{stated_by_run}
pub use Rattle.rez_text.proofs.Coded.{read_coded}
pub use Rattle.rez_text.proofs.Joined.{groups_again}
pub use Rattle.rez_text.proofs.Plain.{area_opens, attributes_open, opens_plainly, plain_all, plain_both, read_plainly, statement_opens}
pub use Rattle.rez_text.proofs.Remarked.{area_remark_run, attributes_remark_run}
pub use Rattle.rez_text.proofs.Statements.{outside, statement_run, with_all, with_groups}
pub use Rattle.rez_text.proofs.Steps.{after, run}
pub use Rattle.rez_text.proofs.Typed.{resource_run, type_run}
pub use Rattle.rez_text.specs.Bytes.{AreBytes, HasBytes, IsOfBytes}
pub use Rattle.rez_text.specs.Coding.{coding_comment}
pub use Rattle.rez_text.specs.Printing.{area_remark, attributes_remark}
pub use Rattle.rez_text.specs.Reading.{read, read_roman}
pub use Rattle.rez_text.specs.Scopes.{ends_last, inside, keeps}
pub use Rattle.rez_text.specs.State.{Files, State, unnamed, with_ref}
pub use Rattle.rez_text.specs.declared.lettering.Lettering.{Lettering}
pub use Rattle.rez_typed.specs.Forms.{Choice, Form, are_bytes, chosen_below, form_by, form_declared, forms_of, forms_with, is_statement}
pub use Rattle.rez_typed.specs.Forms.{one_of, own_of, states, stating, text_by, text_with, values_by}
unfoldable pub use Rattle.rez_typed.specs.Forms.{body, chosen, form_of}
pub use Rattle.rez_typed.specs.Source.{chosen_statement, coded, declaration_line, force_after, is_byte, typed_group, typed_refs}
unfoldable pub use Rattle.rez_typed.specs.Source.{typed_bytes, typed_head, typed_source, typed_statement}
pub use Rattle.rez_typed.specs.Styles.{lettering_of, style_of}
pub use Rattle.rez_typed.specs.View.{forms_in}
pub use Rattle.rez_typed.specs.declared.form.Tail.{Tail}
pub use Rattle.rez_typed.specs.declared.style.Coding.{Coding}
pub use Rattle.rez_typed.specs.declared.style.SourceStyle.{SourceStyle}
pub use Rattle.rez_types.specs.Fields.{Declaration}
pub use Rattle.rez_types.specs.Options.{◌>>=◌}
pub use Rattle.rez_types.specs.Values.{Value}
pub use Rattle.std.proofs.Common.{Bool, Err, List, None, Ok, Option, Result, Some, [], ap, arith, codes, drop, eqb-true, false}
pub use Rattle.std.proofs.Common.{if◌then◌else◌, length, map, refl, replicate, slice_get, subst, suc, sym, true, zero, ℕ, ◌++◌, ◌+◌, ◌-◌}
pub use Rattle.std.proofs.Common.{◌<◌, ◌==◌, ◌^◌, ◌∙◌, ◌∷◌, ◌≡◌}
pub use Rattle.std.proofs.lemmas.Bool.{and_parts, ltb-true}
pub use Rattle.std.proofs.lemmas.Slice.Eq.{bytes_eq-Decides}
pub use Rattle.std.specs.List.{AllByRecursion, flat_map, list_all}
