use Rattle.std.specs.Prelude.{ℕ, ◌+◌, List, [], ◌∷◌}
use Rattle.script_text.specs.Script.{Statement}
use Rattle.zone_scripts.specs.Lines.{Line}
use Rattle.zone_script_laws.specs.Spoken.{said_of}

-- What the text of a script states, line by line.

-- The statements of calls, the first of which stands in the n-th line.
abbrev pub stated_from : ℕ → List Line → List Statement
stated_from n [] = []
stated_from n (l ∷ lines) = record { line = n; said = said_of l } ∷ stated_from (n + 1) lines

-- The line of the first call: the head of a script has one line, and the notes have eight.
abbrev pub first_line : ℕ
first_line = 10
