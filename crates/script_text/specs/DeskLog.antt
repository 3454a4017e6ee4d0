use Rattle.std.specs.Prelude.{ℕ, ℤ, List, ◌++◌, codes, decimal}
use Rattle.std.specs.Fmt.{signed_decimal}
use Rattle.script_text.specs.Transcript.{hex}

-- The lines of desk.log.

-- The line of a launch: the application's name, and the size of its partition in bytes.
-- See decision 108 (`launch NAME 0 SIZE` stands in the desk's log).
abbrev pub launch_of : List ℕ → ℕ → List ℕ
launch_of name size = codes "launch " ++ name ++ codes " 0 " ++ decimal size ++ codes "\n"

-- The line of a launch that was refused: the application's name, and the result code.
abbrev pub refusal_of : List ℕ → ℤ → List ℕ
refusal_of name code = codes "launch " ++ name ++ codes " " ++ signed_decimal code ++ codes "\n"

-- The line of an application's end: the application's name, and the result code.
abbrev pub end_of : List ℕ → ℤ → List ℕ
end_of name code = codes "end " ++ name ++ codes " " ++ signed_decimal code ++ codes "\n"

-- The line of a fork that was written: the application's name, the number k of the file among the application's
-- files, from 0, the file's name, and the fork's length in bytes.
abbrev pub fork_of : List ℕ → ℕ → List ℕ → ℕ → List ℕ
fork_of name k file len =
    codes "fork " ++ name ++ codes " " ++ decimal k ++ codes " $" ++ hex file ++ codes " " ++ decimal len ++ codes "\n"
