use Rattle.std.specs.Prelude.{ℕ, ℤ, List, [], ◌∷◌, ◌++◌, codes, decimal, drop}
use Rattle.std.specs.Fmt.{signed_decimal}
use Rattle.std.specs.Str.Lines.{lines}
use Rattle.transcript_words.specs.Code.{code_words}
use Rattle.transcript_words.specs.Source.{first_word, after_word, written}

-- A transcript in words.

-- What a line of a transcript has after its first word and the blank.
abbrev pub later_words : List ℕ → List ℕ
later_words text = drop 1 (after_word text)

-- A result in words: of a code and the values after it, the code by its name.
abbrev pub result_words : List ℕ → List ℕ
result_words text = codes " -> " ++ code_words (first_word text) ++ after_word text

-- A line of a transcript in words: its number, the call as it was written, its result code by name, and its values.
abbrev pub line_words : List (List ℕ) → List ℕ → List ℕ
line_words source line = first_word line ++ codes " " ++ written source (first_word line)
    ++ result_words (later_words (later_words line))

-- Lines in words, what is `between` before the first, and an end of line before each further one.
abbrev pub lines_words : List (List ℕ) → List ℕ → List (List ℕ) → List ℕ
lines_words source between [] = []
lines_words source between (l ∷ later) = between ++ line_words source l ++ lines_words source (codes "\n") later

-- A step in words: the lines of its transcript, of which the last is that of its call, and in it what the step changed.
abbrev pub step_words : List (List ℕ) → List ℕ → List ℕ → List ℕ
step_words source changes told = lines_words source [] (lines told) ++ changes ++ codes "\n"

-- The last of some lines, and the call of a step in words: what the last line of its transcript says.
abbrev pub last_line : List ℕ → List (List ℕ) → List ℕ
last_line line [] = line
last_line line (l ∷ later) = last_line l later

abbrev pub call_words : List (List ℕ) → List ℕ → List ℕ
call_words source told = line_words source (last_line [] (lines told))

-- The launch in a partition of so many bytes, and the end with a code.
abbrev pub launch_words : ℕ → List ℕ
launch_words size = codes "launch -> noErr " ++ decimal size ++ codes "\n"

abbrev pub end_words : ℤ → List ℕ
end_words code = codes "end -> " ++ code_words (signed_decimal code) ++ codes "\n"
