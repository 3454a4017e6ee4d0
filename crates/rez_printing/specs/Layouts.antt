use Rattle.std.specs.Prelude.{ℕ, List, [], ◌∷◌, codes}
use Rattle.rez_printing.specs.declared.layout.Layout.{Layout}
use Rattle.rez_printing.specs.declared.layout.Layout.TheVariants as layout
use Rattle.rez_printing.specs.declared.layout.Gap.{Gap}
use Rattle.rez_printing.specs.declared.layout.Gap.TheVariants as gap

-- What stands between the values of a statement. Those of the resource itself stand on a line each, and so do the elements of
-- their arrays; all others stand side by side.

-- What stands before a value.
abbrev pub gap_text : Gap → List ℕ
gap_text gap.Nothing = []
gap_text gap.Blank = 32 ∷ []
gap_text gap.Comma = codes ", "
gap_text gap.Semicolon = codes "; "
gap_text gap.FirstLine = 9 ∷ []
gap_text gap.NextLine = codes ",\n\t"
gap_text gap.FirstRow = codes "\n\t\t"
gap_text gap.NextRow = codes ";\n\t\t"

-- What stands before the comment of a fill there. Where an element or the first line begins, that is the gap, so that the comment is
-- one of the element: before the separator it could be taken for the end of the element before. Elsewhere it is a blank, and the gap
-- comes after it.
abbrev pub fill_gap : Gap → List ℕ
fill_gap gap.Semicolon = gap_text gap.Semicolon
fill_gap gap.FirstLine = gap_text gap.FirstLine
fill_gap gap.FirstRow = gap_text gap.FirstRow
fill_gap gap.NextRow = gap_text gap.NextRow
fill_gap g = 32 ∷ []

-- What stands before a value after such a comment.
abbrev pub gap_filled : Gap → Gap
gap_filled gap.Semicolon = gap.Blank
gap_filled gap.FirstLine = gap.Blank
gap_filled gap.FirstRow = gap.Blank
gap_filled gap.NextRow = gap.Blank
gap_filled g = g

-- What stands between a value and the next one.
abbrev pub gap_between : Layout → Gap
gap_between layout.Lines = gap.NextLine
gap_between layout.Flat = gap.Comma

-- What stands before the first element of an array among such values.
abbrev pub gap_first : Layout → Gap
gap_first layout.Lines = gap.FirstRow
gap_first layout.Flat = gap.Blank

-- What stands between the brace that opens it and the comment that says how many elements it has.
abbrev pub array_gap : Layout → List ℕ
array_gap layout.Lines = 9 ∷ []
array_gap layout.Flat = 32 ∷ []

-- What stands before each other element.
abbrev pub gap_next : Layout → Gap
gap_next layout.Lines = gap.NextRow
gap_next layout.Flat = gap.Semicolon

-- What stands between two rows of a picture among such values.
abbrev pub row_break : Layout → List ℕ
row_break layout.Lines = codes "\n\t"
row_break layout.Flat = codes "\n\t\t"

-- The end of such an array.
abbrev pub array_end : Layout → List ℕ
array_end layout.Lines = codes "\n\t}"
array_end layout.Flat = codes " }"

-- The end of the last line, where there is one: once a value was stated.
abbrev pub last_line : Gap → List ℕ
last_line gap.FirstLine = []
last_line g = 10 ∷ []
