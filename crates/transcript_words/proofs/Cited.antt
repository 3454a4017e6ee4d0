-- The names that the proofs of this library cite of others and of its specs, passed on from one place. Declares nothing.
unfoldable pub use Rattle.script_text.specs.Token.{after_blanks}
pub use Rattle.std.proofs.Common.{Bool, List, None, Option, Some, [], ap, codes, drop, false, length, map, refl, true, ℕ, ◌++◌, ◌∙◌, ◌∷◌}
pub use Rattle.std.proofs.Common.{◌≡◌}
pub use Rattle.std.specs.BTreeMap.{get}
unfoldable pub use Rattle.std.specs.Fmt.{digits}
pub use Rattle.std.specs.List.{flat_map}
pub use Rattle.std.specs.Ordering.{nat_cmp}
pub use Rattle.std.specs.Str.Lines.{lines}
pub use Rattle.transcript_words.specs.Changes.{Placed, change_by, change_words, changes, is_handle, place_of, placed}
unfoldable pub use Rattle.transcript_words.specs.Code.{code_words}
pub use Rattle.transcript_words.specs.Source.{source}
pub use Rattle.transcript_words.specs.View.{view_lines, view_placed}
pub use Rattle.transcript_words.specs.Words.{call_words, last_line, lines_words, step_words}
pub use Rattle.zone_drawing.specs.View.{view_line}
