use Rattle.std.specs.Prelude.{ℕ, ◌+◌, nat_lt, if◌then◌else◌}

-- Hexadecimal digits, as the numbers of their characters in ASCII.

-- The digit of a number below 16, in lower case: 0 to 9, and a to f.
abbrev pub lower_digit : ℕ → ℕ
lower_digit n = if nat_lt n 10 then 48 + n else 87 + n

-- The digit of a number below 16, in upper case: 0 to 9, and A to F.
abbrev pub upper_digit : ℕ → ℕ
upper_digit n = if nat_lt n 10 then 48 + n else 55 + n
