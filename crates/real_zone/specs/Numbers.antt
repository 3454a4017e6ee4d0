use Rattle.std.specs.Prelude.{ℕ, List, drop}
use Rattle.byteorder.specs.Endian.{big_number}

-- The number of n bytes at an offset, the highest byte first.
unfoldable pub number : ℕ → ℕ → List ℕ → ℕ
number n at bytes = big_number n (drop at bytes)
