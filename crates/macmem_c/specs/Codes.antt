use Rattle.std.specs.Prelude.{ℕ, ℤ, pos, Result, Ok, Err}
use Rattle.mac_words.specs.Codes.{noErr, minus}
use Rattle.mac_words.specs.declared.code.OsErr.{OsErr}
use Rattle.heap_calls.specs.declared.refusal.Refusal.{Refusal}
use Rattle.heap_calls.specs.declared.refusal.Refusal.TheVariants.{Code, HostMemory}

-- The codes that C gets. Inside Macintosh: Memory, "Result Codes".

-- The code where the host is out of memory. No result code has it: those have 16 bits.
abbrev pub host_memory : ℤ
host_memory = pos 65536

-- The code where no zone has the size that is asked for.
abbrev pub paramErr : ℤ
paramErr = minus 50

-- The code of a call: 0 where the call was done.
abbrev pub code_of : {T : Type 0} → Result T OsErr → ℤ
code_of (Ok value) = noErr
code_of (Err code) = code.0

-- The code of a call that may find the host out of memory.
abbrev pub code_in : {T : Type 0} → Result T Refusal → ℤ
code_in (Ok value) = noErr
code_in (Err (Code code)) = code.0
code_in (Err HostMemory) = host_memory

-- The number that C has after a call: the one that the call returned, else the one before.
abbrev pub number_of : ℕ → Result ℕ OsErr → ℕ
number_of before (Ok number) = number
number_of before (Err code) = before

abbrev pub number_in : ℕ → Result ℕ Refusal → ℕ
number_in before (Ok number) = number
number_in before (Err refusal) = before

-- The offset that C has after a call: the one that the call returned, else the one before.
abbrev pub offset_in : ℤ → Result ℤ Refusal → ℤ
offset_in before (Ok offset) = offset
offset_in before (Err refusal) = before
