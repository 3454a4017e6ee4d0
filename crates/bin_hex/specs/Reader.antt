use Rattle.std.specs.Prelude.{ℕ, ◌-◌, ◌==◌, ◌&&◌, not, Bool, true, false, if◌then◌else◌, List, ◌++◌, drop, replicate}
use Rattle.bin_hex.specs.Runs.{expanded}
use Rattle.bin_hex.specs.declared.runs.Runs.{Runs}

-- The bytes that a reader of a text with runs still has to give.
abbrev pub rest_of : Runs → List ℕ
rest_of runs = replicate runs.left runs.last ++ expanded runs.marked runs.last (drop runs.at runs.packed.items)

-- How many bytes a byte of the text gives, after a 90 that is not yet followed up, or not.
abbrev pub given : Bool → ℕ → ℕ
given false byte = if byte == 0x90 then 0 else 1
given true byte = if byte == 0 then 1 else byte - 1

-- Whether it is a 90 that is not yet followed up.
abbrev pub marked_after : Bool → ℕ → Bool
marked_after marked byte = not marked && byte == 0x90
