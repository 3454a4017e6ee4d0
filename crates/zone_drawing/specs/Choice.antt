use Rattle.std.specs.Prelude.{ℕ, ◌==◌, Bool, true, false, Option, Some, None, List}
use Rattle.std.specs.List.{filter}
use Rattle.zone_drawing.specs.declared.choice.Choice.{Choice}
use Rattle.zone_drawing.specs.declared.choice.Choice.TheVariants as choice
use Rattle.zone_drawing.specs.Line.{Line}
use Rattle.zone_drawing.specs.Text.{is_locked, is_purgeable}
use Rattle.zone_drawing.specs.Totals.{is_free}

-- Which blocks of a zone are listed.

-- Whether a block is the one of the handle or pointer of this number.
abbrev pub is_numbered : ℕ → Option ℕ → Bool
is_numbered n None = false
is_numbered n (Some number) = number == n

-- A block is chosen by a flag, by its being free, or by the number of its handle or pointer.
abbrev pub is_chosen : Choice → Line → Bool
is_chosen choice.All l = true
is_chosen choice.Locked l = is_locked l.shape
is_chosen choice.Purgeable l = is_purgeable l.shape
is_chosen choice.Free l = is_free l.shape
is_chosen (choice.Of n) l = is_numbered n l.tag.number
is_chosen choice.Nothing l = false

abbrev pub chosen : Choice → List Line → List Line
chosen c lines = filter (is_chosen c) lines
