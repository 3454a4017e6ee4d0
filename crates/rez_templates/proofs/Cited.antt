-- The names that the proofs of this library cite of others and of its specs, passed on from one place. Declares nothing.
pub use Rattle.fork_format.specs.Content.{is_of}
pub use Rattle.fork_format.specs.View.{view_group, view_ref}
pub use Rattle.rez_statements.specs.View.{types_of}
pub use Rattle.rez_templates.specs.Items.{Drafted, escaped, split_last}
unfoldable pub use Rattle.rez_templates.specs.Items.{begin_text, count_text, end_text, fields_text, fill_text, hex_text, item_of, statement}
unfoldable pub use Rattle.rez_templates.specs.Items.{template_statement, with_count, with_end, with_fill, with_items, with_list, with_next}
pub use Rattle.rez_templates.specs.Templates.{refs_of_type, with_all, with_bundle, with_template}
pub use Rattle.rez_templates.specs.View.{drafted_of}
pub use Rattle.rez_types.proofs.Turns.{above}
pub use Rattle.rez_types.specs.Options.{◌>>=◌}
pub use Rattle.std.proofs.Common.{List, None, Some, [], ap, arith, codes, drop, length, map, min, refl, suc, sym, take, zero, ℕ, ◌++◌, ◌-◌}
pub use Rattle.std.proofs.Common.{◌<◌, ◌∙◌, ◌∷◌, ◌≡◌}
pub use Rattle.std.proofs.lemmas.List.{take-map, take_min}
unfoldable pub use Rattle.std.specs.Fmt.{digits}
pub use Rattle.std.specs.List.{flat_map, list_any}
