use Rattle.std.specs.Prelude.{ℕ, Option, Some, None, Result, Ok, Err, List}
use Rattle.mac_words.specs.declared.code.OsErr.{OsErr}
use Rattle.heap_calls.specs.State.{State}
use Rattle.heap_calls.specs.Answer.{show}

-- The bytes of a handle's block. Inside Macintosh: Memory, chapter 1, "Relocatable and Nonrelocatable Blocks".

abbrev pub shown : Result (List ℕ) OsErr → Option (List ℕ)
shown (Ok bytes) = Some bytes
shown (Err code) = None

-- The bytes of the block of a number's handle, whether the handle is busy or not; `None` where it has no block.
abbrev pub bytes_of : ℕ → State → Option (List ℕ)
bytes_of h s = shown (show (Some h) s).0
