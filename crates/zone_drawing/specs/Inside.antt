use Rattle.std.specs.Prelude.{ℕ, ◌+◌, Bool, true, not, ◌&&◌, ◌||◌, Option, Some, None, List, [], ◌∷◌, ◌++◌}
use Rattle.std.specs.Prelude.{codes, decimal, is_some, min, if◌then◌else◌}
use Rattle.zone_drawing.specs.declared.line.Shape.TheVariants as shape
use Rattle.zone_drawing.specs.declared.strip.Extent.{Extent}
use Rattle.zone_drawing.specs.Line.{Line, no_tag}
use Rattle.zone_drawing.specs.Quiet.{added, same_lines}
use Rattle.zone_drawing.specs.Steps.{Moment, extent_of}
use Rattle.zone_drawing.specs.Totals.{is_free, is_relocatable}

-- What a zone was inside a call, by its blocks before the call and after it: once blocks had been purged, and once room had
-- been made for a block that is new.

-- A block of a handle that has none among others; these are given by where the block of each number stands.
abbrev pub stands_in : (ℕ → Option Extent) → Option ℕ → Bool
stands_in others None = true
stands_in others (Some n) = is_some (others n)

abbrev pub is_missing : (ℕ → Option Extent) → Line → Bool
is_missing others l = is_relocatable l.shape && not (stands_in others l.tag.number)

-- That block freed.
abbrev pub as_free : Line → Line
as_free l = record { place = l.place; size = l.size; shape = shape.Free; bytes = 0; tag = no_tag }

abbrev pub freed : (ℕ → Option Extent) → Line → Line
freed others l = if is_missing others l then as_free l else l

-- A block above others: free bytes are joined with those below them. A zone has less than 2 ^ 32 bytes.
abbrev pub joined_size : ℕ → ℕ → ℕ
joined_size n m = min 4294967295 (n + m)

abbrev pub joined : Line → Line → Line
joined last l = record last { size = joined_size last.size l.size }

abbrev pub above_last : Line → Line → List Line
above_last last l = if is_free last.shape && is_free l.shape then joined last l ∷ [] else last ∷ l ∷ []

abbrev pub added_line : List Line → Line → List Line
added_line [] l = l ∷ []
added_line (x ∷ []) l = above_last x l
added_line (x ∷ y ∷ below) l = x ∷ added_line (y ∷ below) l

-- Blocks without those of handles that have none among others, after blocks below them.
abbrev pub without : (ℕ → Option Extent) → List Line → List Line → List Line
without others below [] = below
without others below (l ∷ above) = without others (added_line below (freed others l)) above

-- The zone before a call without what the call purged, and the zone after it without the block that is new.
abbrev pub purged_lines : List Line → List Line → List Line
purged_lines before after = without (extent_of after) [] before

abbrev pub cleared_lines : List Line → List Line → List Line
cleared_lines before after = without (extent_of before) [] after

-- A strip inside the call of a line, where the zone was another than before and after.
abbrev pub part_moment : ℕ → List ℕ → List Line → Moment
part_moment number words lines = record { number = number; caption = decimal number ++ words; passed = None; lines = lines }

abbrev pub part_between : List Line → List Line → Moment → List Moment
part_between before after m = if same_lines before m.lines || same_lines m.lines after then [] else m ∷ []

abbrev pub parts : List Line → ℕ → List Line → List Moment
parts before number after =
    part_between before after (part_moment number (codes ": blocks purged") (purged_lines before after))
    ++ part_between (purged_lines before after) after
    (part_moment number (codes ": room made") (cleared_lines before after))

-- The strips of tries, one after another: those inside each, and the one after it, where it changed the zone, or where all
-- are to be drawn.
abbrev pub try_strips : Bool → List Line → Moment → List Moment
try_strips all before m =
    parts before m.number m.lines ++ (if not all && same_lines before m.lines then [] else m ∷ [])

abbrev pub tries_strips : Bool → List Line → List Moment → List Moment
tries_strips all before [] = []
tries_strips all before (m ∷ later) = try_strips all before m ++ tries_strips all m.lines later

abbrev pub lines_after : List Line → List Moment → List Line
lines_after before [] = before
lines_after before (m ∷ later) = lines_after m.lines later

-- The strips inside a step: those of its tries but the last, and those inside the last.
abbrev pub inside : Bool → List Line → List Moment → Moment → List Moment
inside all before tries m = tries_strips all before tries ++ parts (lines_after before tries) m.number m.lines

-- A moment after others, with the strips inside its step; where there is any, its own strip is drawn too.
abbrev pub added_with : Bool → List Moment → List Moment → Moment → List Moment
added_with all ms [] m = added all ms m
added_with all ms (i ∷ strips) m = ms ++ (i ∷ strips) ++ m ∷ []
