use Rattle.bin_hex.proofs.Cited.{◌≡◌, ℕ, ◌<◌, ◌≤◌, Bool, true, ◌&&◌, get_or, refl, arith, ◌==◌, nat_lt, position, Option, Some, None}
use Rattle.bin_hex.proofs.Cited.{agree_below_at, alphabet, role_at, PLACES}
use Rattle.bin_hex.specs.declared.alphabet.Role.TheVariants as role

-- a place in the alphabet is the one that the table has, or neither is there
abbrev fits : Option ℕ → ℕ → Bool
fits (Some sextet) place = sextet == place && nat_lt place 64
fits None place = 64 == place

abbrev fits_at : ℕ → Bool
fits_at byte = fits (position (λ character. character == byte) alphabet) (get_or PLACES byte 0)

all_fit : (byte : ℕ) → byte < 256 → fits_at byte ≡ true
all_fit byte h = agree_below_at fits_at (λ _. true) 256 byte refl h

is_place : (found : Option ℕ) (place : ℕ) → fits found place ≡ true → place < 64 → role_at found ≡ role.Sextet place
is_place (Some sextet) place h low = grind arith
is_place None place h low = grind arith

is_none : (found : Option ℕ) (place : ℕ) → fits found place ≡ true → 64 ≤ place → role_at found ≡ role.Foreign
is_none (Some sextet) place h high = grind arith
is_none None place h high = refl

pub has_place : (byte : ℕ) → byte < 256 → get_or PLACES byte 0 < 64
    → role_at (position (λ character. character == byte) alphabet) ≡ role.Sextet (get_or PLACES byte 0)
has_place byte h low = is_place _ (get_or PLACES byte 0) (all_fit byte h) low

pub no_place : (byte : ℕ) → byte < 256 → 64 ≤ get_or PLACES byte 0
    → role_at (position (λ character. character == byte) alphabet) ≡ role.Foreign
no_place byte h high = is_none _ (get_or PLACES byte 0) (all_fit byte h) high
