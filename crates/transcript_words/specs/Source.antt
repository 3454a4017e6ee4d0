use Rattle.std.specs.Prelude.{ℕ, ◌-◌, ◌==◌, Option, Some, None, List, [], ◌∷◌, map, drop, take, slice_get, unwrap_or}
use Rattle.std.specs.Prelude.{if◌then◌else◌}
use Rattle.std.specs.Str.Lines.{lines}
use Rattle.script_text.specs.Token.{place, is_blank, after_blanks}
use Rattle.script_text.specs.Argument.{number}

-- The text of a script, in which a line is found that a transcript names.

-- The lines of a text, each without the blanks before its first word.
abbrev pub source : List ℕ → List (List ℕ)
source text = map after_blanks (lines text)

-- The first word of a text, and the text after it.
abbrev pub first_word : List ℕ → List ℕ
first_word text = take (place is_blank text) text

abbrev pub after_word : List ℕ → List ℕ
after_word text = drop (place is_blank text) text

-- The digits of the number that a line of a transcript begins with; a line of a grow-zone script has a + before them.
abbrev pub digits_in : List ℕ → List ℕ
digits_in [] = []
digits_in (c ∷ rest) = if c == 43 then rest else c ∷ rest

-- The line of this number, counted from 1, where there is one.
abbrev pub line_of : Option ℕ → List (List ℕ) → List ℕ
line_of None lines = []
line_of (Some n) lines = unwrap_or (slice_get lines (n - 1)) []

-- The call that a line of a transcript names by its first word, as it was written.
abbrev pub written : List (List ℕ) → List ℕ → List ℕ
written lines front = line_of (number 10 4294967295 (digits_in front)) lines
