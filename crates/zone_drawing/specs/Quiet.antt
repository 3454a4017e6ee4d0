use Rattle.std.specs.Prelude.{ℕ, ◌+◌, ◌==◌, ◌&&◌, Bool, true, false, not, Option, Some, None, List, [], ◌∷◌, bytes_eq, if◌then◌else◌}
use Rattle.zone_drawing.specs.declared.line.Passed.{Passed}
use Rattle.zone_drawing.specs.declared.line.Shape.{Shape}
use Rattle.zone_drawing.specs.declared.line.Shape.TheVariants as shape
use Rattle.zone_drawing.specs.Line.{Line}
use Rattle.zone_drawing.specs.Steps.{Moment}
use Rattle.zone_drawing.specs.Text.{name_text}

-- Which moments are drawn: each at which the zone is another than before, by its blocks, their flags and their names. A
-- call that changes nothing is noted at the moment before it.

-- What a block is, and whose it is, as numbers.
abbrev pub shape_number : Shape → ℕ
shape_number shape.Free = 0
shape_number shape.Nonrelocatable = 1
shape_number shape.Masters = 2
shape_number (shape.Relocatable flags) = 3 + (if flags.locked then 1 else 0) + (if flags.purgeable then 2 else 0)

abbrev pub number_mark : Option ℕ → ℕ
number_mark None = 0
number_mark (Some n) = n + 1

-- Whether two blocks are the same, at the same place and of the same name.
abbrev pub same_block : Line → Line → Bool
same_block a b = a.place == b.place && a.size == b.size && shape_number a.shape == shape_number b.shape

abbrev pub same_tag : Line → Line → Bool
same_tag a b = number_mark a.tag.number == number_mark b.tag.number && bytes_eq (name_text a.tag.name) (name_text b.tag.name)

abbrev pub same_line : Line → Line → Bool
same_line a b = same_block a b && same_tag a b

abbrev pub same_lines : List Line → List Line → Bool
same_lines [] [] = true
same_lines [] (b ∷ other) = false
same_lines (a ∷ lines) [] = false
same_lines (a ∷ lines) (b ∷ other) = same_line a b && same_lines lines other

-- A moment after which a call on this line changed nothing.
abbrev pub first_passed : Option Passed → ℕ → ℕ
first_passed None number = number
first_passed (Some p) number = p.first

abbrev pub passing : Moment → ℕ → Moment
passing m number = record m { passed = Some (record { first = first_passed m.passed number; last = number }) }

-- A moment after the last of others; after each call where `all` asks for that.
abbrev pub is_quiet : Bool → Moment → Moment → Bool
is_quiet all last m = not all && same_lines last.lines m.lines

abbrev pub after_last : Bool → Moment → Moment → List Moment
after_last all last m = if is_quiet all last m then passing last m.number ∷ [] else last ∷ m ∷ []

abbrev pub added : Bool → List Moment → Moment → List Moment
added all [] m = m ∷ []
added all (x ∷ []) m = after_last all x m
added all (x ∷ y ∷ ms) m = x ∷ added all (y ∷ ms) m

-- Moments one after another, after those that are drawn so far.
abbrev pub gathered : Bool → List Moment → List Moment → List Moment
gathered all ms [] = ms
gathered all ms (m ∷ later) = gathered all (added all ms m) later
