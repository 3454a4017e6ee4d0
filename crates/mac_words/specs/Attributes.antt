use Rattle.std.specs.Prelude.{ℕ, Bool, not, ◌==◌, bit_and, bit_or}

-- An attribute byte without resChanged, whose value is 2.
-- More Macintosh Toolbox, chapter 1, "Resource Attributes".
abbrev pub unchanged : ℕ → ℕ
unchanged attributes = bit_and attributes 253

-- An attribute byte with resChanged.
abbrev pub changed : ℕ → ℕ
changed attributes = bit_or attributes 2

-- The new attributes, with resChanged as it was in the old ones.
-- See decision 65 (`SetResAttrs` sets every bit but resChanged).
abbrev pub set : ℕ → ℕ → ℕ
set new attributes = bit_or (unchanged new) (bit_and attributes 2)

-- The attribute byte has the bit of this value.
abbrev pub has_bit : ℕ → ℕ → Bool
has_bit bit attributes = not (bit_and attributes bit == 0)
