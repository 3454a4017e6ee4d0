-- The names that the proofs of this library cite of others and of its specs, passed on from one place. Declares nothing.
pub use Rattle.std.proofs.Common.{Bool, List, [], ap, append_assoc, ap₂, arith, cond, drop, eq-eqb, false, get_or, length, map, min, ne_eqb}
pub use Rattle.std.proofs.Common.{not, refl, subst, suc, sym, take, true, zero, ℕ, ◌++◌, ◌+◌, ◌-◌, ◌<◌, ◌==◌, ◌||◌, ◌↔◌, ◌∙◌, ◌∷◌, ◌≡◌, ◌≢◌}
pub use Rattle.std.proofs.Common.{◌≤◌}
pub use Rattle.std.proofs.lemmas.Bool.{cond-false, cond-true, false_from_ne_true}
pub use Rattle.std.proofs.lemmas.Grind.{flat_map-append}
pub use Rattle.std.proofs.lemmas.List.{append-nil, append_cancel_left, append_cancel_right, drop-map, drop-take, drop_all, drop_at}
pub use Rattle.std.proofs.lemmas.List.{drop_more, get_or-drop, get_or-map, get_or-reverse, length-drop, length-map, length-reverse}
pub use Rattle.std.proofs.lemmas.List.{map_more, reverse-append, reverse-reverse, take-append-drop, take-map, take-take, take_at, take_more}
pub use Rattle.std.proofs.lemmas.List.{take_rest}
pub use Rattle.std.proofs.lemmas.List.Folds.{list_any-append}
pub use Rattle.std.proofs.lemmas.Slice.Eq.{bytes_eq-Decides}
pub use Rattle.std.specs.Borrow.{Bor}
unfoldable pub use Rattle.std.specs.Fmt.{digits}
pub use Rattle.std.specs.List.{flat_map, list_any}
pub use Rattle.std.specs.Prelude.{bytes_eq, codes, reverse}
pub use Rattle.text_diff.specs.Difference.{BeginApart, IsClose, IsDifference}
pub use Rattle.text_diff.specs.Hunks.{context_after, hunk, hunks_text, is_shown, names_text, place_after, shown_text, start, unified_text}
pub use Rattle.text_diff.specs.Lines.{lines, onto_first_line}
pub use Rattle.text_diff.specs.Script.{Added, Kept, Removed, Step, is_change, new_line, new_side, old_line, old_side}
pub use Rattle.text_diff.specs.View.{view_lines, view_step, view_steps}
pub use Rattle.text_diff.specs.Written.{IsWritten, common_length}
pub use Rattle.text_diff.specs.declared.matching.Point.{Point}
pub use Rattle.text_diff.specs.declared.printing.Place.{Place}
