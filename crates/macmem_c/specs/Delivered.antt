use Rattle.std.specs.Prelude.{ℕ, List, ◌++◌, length, take, drop, Result, Ok, Err}
use Rattle.std.specs.Borrow.{Bor}
use Rattle.mac_words.specs.declared.code.OsErr.{OsErr}

-- What C has in its memory after a call.

-- A list, of bytes or of rows, at the front of memory, as much of it as there is room for, and the memory after it as it was.
abbrev pub laid_over : {T : Type 0} → List T → List T → List T
laid_over all memory = take (length memory) all ++ drop (length all) memory

-- The memory and the count after bytes were shown; as they were where the call is refused.
abbrev pub front_of : List ℕ → Result (Bor (List ℕ)) OsErr → List ℕ
front_of memory (Ok bytes) = laid_over bytes.now memory
front_of memory (Err code) = memory

abbrev pub count_of : ℕ → Result (Bor (List ℕ)) OsErr → ℕ
count_of before (Ok bytes) = length bytes.now
count_of before (Err code) = before
