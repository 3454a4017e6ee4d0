use Rattle.std.specs.Prelude.{ℕ, ◌%◌, ◌<◌, ◌==◌, ◌||◌, not, Bool, Option, Some, None, List, codes, position, get_or, if◌then◌else◌, ⊤}
use Rattle.bin_hex.specs.declared.alphabet.Role.{Role}
use Rattle.bin_hex.specs.declared.alphabet.Role.TheVariants as role

-- The characters of the encoded text. RFC 1741, appendix A.

-- The 64 characters that stand for six bits each, in the order of their values.
abbrev pub alphabet : List ℕ
alphabet = codes "!\"#$%&'()*+,-012345689@ABCDEFGHIJKLMNPQRSTUVXYZ[`abcdefhijklmpqr"

-- The character for the lowest six bits of a number.
abbrev pub character : ℕ → ℕ
character sextet = get_or alphabet (sextet % 64) 0

-- A blank, a tab, CR or LF. These are passed over.
abbrev pub is_blank : ℕ → Bool
is_blank byte = byte == 32 || byte == 9 || byte == 13 || byte == 10

-- Any other byte.
abbrev pub is_dark : ℕ → Bool
is_dark byte = not (is_blank byte)

-- What a byte is by its place in the alphabet, if it has one.
abbrev pub role_at : Option ℕ → Role
role_at (Some sextet) = role.Sextet sextet
role_at None = role.Foreign

-- What a byte is within the encoded text: the colon that ends it, one that is passed over, the character for six bits, or
-- none of these.
abbrev pub role_of : ℕ → Role
role_of byte =
    if byte == 58 then role.Colon
    else if is_blank byte then role.Blank
    else role_at (position (λ character. character == byte) alphabet)

-- What stands for six bits is below 64.
abbrev pub IsRole : Role → Type 0
IsRole (role.Sextet sextet) = sextet < 64
IsRole _ = ⊤
