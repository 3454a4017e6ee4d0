use Rattle.std.specs.Prelude.{ℕ, ◌+◌, ◌-◌, ◌==◌, ◌&&◌, not, Bool, true, false, nat_le, nat_lt, if◌then◌else◌}
use Rattle.std.specs.Prelude.{List, [], ◌∷◌, ◌++◌, replicate, flat_map}

-- Runs of equal bytes. After a byte, 90 and a number of 1 to 255 say how many of that byte stand there in all. A byte of 90
-- is 90 and 0, and may be followed by 90 and a number as any byte. RFC 1741, appendix A.

-- The bytes of a text with runs, after its last byte, and after a 90 that is not yet followed up or not. A 90 at the end
-- stands for nothing.
abbrev pub expanded : Bool → ℕ → List ℕ → List ℕ
expanded marked last [] = []
expanded false last (byte ∷ bytes) =
    if byte == 0x90 then expanded true last bytes else byte ∷ expanded false byte bytes
expanded true last (count ∷ bytes) =
    if count == 0 then 0x90 ∷ expanded false 0x90 bytes else replicate (count - 1) last ++ expanded false last bytes

-- The text begins with a run, which has no byte to repeat.
abbrev pub begins_with_run : List ℕ → Bool
begins_with_run [] = false
begins_with_run (byte ∷ []) = false
begins_with_run (byte ∷ count ∷ bytes) = byte == 0x90 && not (count == 0)

-- A byte in a text with runs.
abbrev pub literal : ℕ → List ℕ
literal byte = if byte == 0x90 then 0x90 ∷ 0 ∷ [] else byte ∷ []

-- A byte that many times, as it is written: with their number where that is 4 or more and the byte is not 90, else one by
-- one. A number takes three bytes, so no run is longer than its bytes; and some readers know no run of 90.
abbrev pub run : ℕ → ℕ → List ℕ
run byte count =
    if nat_le 4 count && not (byte == 0x90) then byte ∷ 0x90 ∷ count ∷ [] else flat_map literal (replicate count byte)

-- Bytes as a text with runs, after a byte that stood before them so many times. No number is above 255.
abbrev pub runs_after : ℕ → ℕ → List ℕ → List ℕ
runs_after last count [] = run last count
runs_after last count (byte ∷ bytes) =
    if byte == last && nat_lt count 255 then runs_after last (count + 1) bytes
    else run last count ++ runs_after byte 1 bytes

-- Bytes as a text with runs.
abbrev pub compressed : List ℕ → List ℕ
compressed bytes = runs_after 0 0 bytes
