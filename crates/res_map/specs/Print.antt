use Rattle.std.specs.Prelude.{ℕ, ℤ, List, [], ◌∷◌, ◌+◌, ◌*◌}
use Rattle.std.specs.Prelude.{◌%◌}
use Rattle.std.specs.Int.{cast_signed, w32}
use Rattle.std.specs.Str.{str_to_ascii_lowercase}

-- The print of a name: a number that all names have that match each other. Names that do not match may have it too.

-- A number, and then a byte more.
abbrev pub with_byte : ℕ → ℕ → ℕ
with_byte n byte = n % 4294967296 * 2654435761 + byte

-- A number, and then bytes more.
abbrev pub with_bytes : ℕ → List ℕ → ℕ
with_bytes n [] = n
with_bytes n (byte ∷ bytes) = with_bytes (with_byte n byte) bytes

-- The print of a name: ASCII letters count alike in either case.
unfoldable pub print : List ℕ → ℤ
print name = cast_signed w32 (with_bytes 0 (str_to_ascii_lowercase name) % 4294967296)
