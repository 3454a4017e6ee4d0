use Rattle.std.specs.Prelude.{ℕ, ◌-◌, ◌%◌, ◌&&◌, nat_le, Option, Some, None, List, if◌then◌else◌}
use Rattle.std.specs.List.{list_all}
use Rattle.std.specs.Char.{is_ascii_digit}
use Rattle.script_text.specs.Argument.{number_from}
use Rattle.script_text.specs.Job.{least_memory, greatest_memory}

-- A number rounded down to a multiple of 16.
abbrev pub rounded_down : ℕ → ℕ
rounded_down n = n - n % 16

-- A number within the limits of a partition, rounded down to a multiple of 16.
abbrev pub within_limits : ℕ → Option ℕ
within_limits n = if nat_le least_memory n && nat_le n greatest_memory then Some (rounded_down n) else None

-- The size in a text: the text has only decimal digits, and leading zeros are allowed.
-- See decision 158 (SIZE is one or more decimal digits).
abbrev pub partition_size : List ℕ → Option ℕ
partition_size text = if list_all is_ascii_digit text then within_limits (number_from 0 text) else None
