use Rattle.mac_roman.proofs.Cited.{◌≡◌, ◌∙◌, ℕ, zero, suc, ◌<◌, true, List, [], ◌∷◌, ◌++◌, refl, ap, arith, lit<, Ok, nat_lt}
use Rattle.mac_roman.proofs.Cited.{AllByRecursion, flat_map, IsAscii, nat_tests, IsUtf8-from_ascii, chars-IsAscii, byte_of, bytes_of}
use Rattle.mac_roman.proofs.Cited.{to_roman, from_roman, character}
use Rattle.std.specs.Prelude.{Some}
use Rattle.mac_roman.proofs.Encoding.{utf8_made}

-- Text of ASCII, and text character by character.

pub is_ascii : (text : List ℕ) → AllByRecursion (λ b. b < 128) text → IsAscii text
is_ascii [] low i = lit< tt
is_ascii (b ∷ text) low zero = low.0
is_ascii (b ∷ text) low (suc i) = is_ascii text low.1 i

byte_itself : (b : ℕ) → b < 128 → byte_of b ≡ Some b
byte_itself b low =
    let is : nat_lt b 128 ≡ true = grind (arith, nat_tests) in
    rw is refl

bytes_themselves : (text : List ℕ) → AllByRecursion (λ b. b < 128) text → bytes_of text ≡ Ok text
bytes_themselves [] low = refl
bytes_themselves (b ∷ text) low = rw (byte_itself b low.0, bytes_themselves text low.1) refl

-- a text of ASCII is itself
pub taken : (text : List ℕ) → AllByRecursion (λ b. b < 128) text → to_roman text ≡ Ok text
taken text low =
    let ascii = is_ascii text low in
    utf8_made text (IsUtf8-from_ascii text ascii) ∙ ap bytes_of (chars-IsAscii text ascii) ∙ bytes_themselves text low

-- a text is its characters one after another
pub printed_whole : (bytes : List ℕ) → flat_map character bytes ≡ from_roman bytes
printed_whole [] = refl
printed_whole (b ∷ bytes) = ap (λ l. character b ++ l) (printed_whole bytes)
