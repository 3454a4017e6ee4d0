-- Hexadecimal digits: what is printed is read again.
use Rattle.rez_text.proofs.Cited.{◌≡◌, ◌<◌, ◌==◌, ℕ, ◌+◌, ◌/◌, ◌%◌, Bool, true, false, cond, Option, Some, None, nat_lt, ◌&&◌, Ok, List, []}
use Rattle.rez_text.proofs.Cited.{◌∷◌, ◌++◌, refl, ap, ◌∙◌, sym, arith, eqb-true, append_assoc, append-nil, agree_below_at, Ref}
use Rattle.rez_text.proofs.Cited.{upper_digit, Said, AreBytes, is_blank, hex_value, byte_of, step, hex_string, hex_half, digit_in, byte_hex}
use Rattle.rez_text.proofs.Cited.{gap, grouped}
use Rattle.rez_text.specs.declared.mode.Radix.TheVariants as radix
use Rattle.rez_text.specs.declared.mode.Mode.TheVariants as mode
use Rattle.rez_text.specs.declared.mode.Place.TheVariants as place
use Rattle.rez_text.proofs.Steps.{at, run, after}

-- the value of an option is a number
abbrev pub has_value : Option ℕ → ℕ → Bool
has_value None n = false
has_value (Some m) n = m == n

pub value_is : (o : Option ℕ) (n : ℕ) → has_value o n ≡ true → o ≡ Some n
value_is None n h = absurd (cc)
value_is (Some m) n h = ap Some (eqb-true m n h)

pub digit_value : (d : ℕ) → d < 16 → hex_value (upper_digit d) ≡ Some d
digit_value d h = value_is _ d (agree_below_at (λ n. has_value (hex_value (upper_digit n)) n) (λ _. true) 16 d refl h)

pub digit_read : (d : ℕ) → d < 16 → digit_in radix.Hexadecimal (upper_digit d) ≡ Some d
digit_read d h =
    value_is _ d (agree_below_at (λ n. has_value (digit_in radix.Hexadecimal (upper_digit n)) n) (λ _. true) 16 d refl h)

pub digit_no_blank : (d : ℕ) → d < 16 → is_blank (upper_digit d) ≡ false
digit_no_blank d h = agree_below_at (λ n. is_blank (upper_digit n)) (λ _. false) 16 d refl h

pub digit_no_quote : (d : ℕ) → d < 16 → (upper_digit d == 34) ≡ false
digit_no_quote d h = agree_below_at (λ n. upper_digit n == 34) (λ _. false) 16 d refl h

pub digit_no_star : (d : ℕ) → d < 16 → (upper_digit d == 42) ≡ false
digit_no_star d h = agree_below_at (λ n. upper_digit n == 42) (λ _. false) 16 d refl h

-- two digits of a byte are that byte
pub halves : (b : ℕ) → b < 256 → byte_of (b / 16) (b % 16) ≡ b
halves b h = omega arith

-- the high digit of a byte in a hexadecimal string
high_step : (x h : ℕ) (g : List ℕ) (k : ℕ) (d : Ref) (c : Said) → (x == 34) ≡ false → is_blank x ≡ false
    → hex_value x ≡ Some h
    → step x (at mode.HexString place.Data g k d c) ≡ Ok (at (mode.HexHalf h) place.Data g k d c)
unfolding step hex_string
high_step x h g k d c q b v = rw (q, b, v) refl

low_step : (x h l : ℕ) (g : List ℕ) (k : ℕ) (d : Ref) (c : Said) → (x == 34) ≡ false → is_blank x ≡ false
    → hex_value x ≡ Some l
    → step x (at (mode.HexHalf h) place.Data g k d c) ≡ Ok (at mode.HexString place.Data (g ++ byte_of h l ∷ []) k d c)
unfolding step hex_half
low_step x h l g k d c q b v = rw (q, b, v) refl

pub byte_run : (b : ℕ) (g : List ℕ) (k : ℕ) (d : Ref) (c : Said) → b < 256
    → run (Ok (at mode.HexString place.Data g k d c)) (byte_hex b) ≡ Ok (at mode.HexString place.Data (g ++ b ∷ []) k d c)
byte_run b g k d c small =
    let high : b / 16 < 16 = omega arith in
    let low : b % 16 < 16 = omega arith in
    let first = high_step (upper_digit (b / 16)) (b / 16) g k d c (digit_no_quote _ high) (digit_no_blank _ high)
    (digit_value _ high) in
    let second = low_step (upper_digit (b % 16)) (b / 16) (b % 16) g k d c (digit_no_quote _ low) (digit_no_blank _ low)
    (digit_value _ low) in
    after (at mode.HexString place.Data g k d c) (at (mode.HexHalf (b / 16)) place.Data g k d c) _
    (upper_digit (b / 16) ∷ []) (upper_digit (b % 16) ∷ []) first
    (second ∙ ap (λ n. Ok (at mode.HexString place.Data (g ++ n ∷ []) k d c)) (halves b small))

gap_run : (n : ℕ) (g : List ℕ) (k : ℕ) (d : Ref) (c : Said)
    → run (Ok (at mode.HexString place.Data g k d c)) (gap n) ≡ Ok (at mode.HexString place.Data g k d c)
unfolding step hex_string
gap_run n g k d c =
    elim (nat_lt 0 n && n % 2 == 0) as (λ v. run (Ok (at mode.HexString place.Data g k d c)) (cond v (32 ∷ []) [])
    ≡ Ok (at mode.HexString place.Data g k d c)) [ true ↦ refl | false ↦ refl ]

-- bytes in groups of four digits are those bytes
pub grouped_run : (bytes : List ℕ) (n : ℕ) (g : List ℕ) (k : ℕ) (d : Ref) (c : Said) → AreBytes bytes
    → run (Ok (at mode.HexString place.Data g k d c)) (grouped n bytes)
    ≡ Ok (at mode.HexString place.Data (g ++ bytes) k d c)
grouped_run [] n g k d c small = ap (λ l. Ok (at mode.HexString place.Data l k d c)) (sym (append-nil g))
grouped_run (b ∷ bytes) n g k d c small =
    let s = at mode.HexString place.Data g k d c in
    let one = after s s _ (gap n) (byte_hex b) (gap_run n g k d c) (byte_run b g k d c small.0) in
    let more = grouped_run bytes (n + 1) (g ++ b ∷ []) k d c small.1 in
    after s (at mode.HexString place.Data (g ++ b ∷ []) k d c) _ (gap n ++ byte_hex b) (grouped (n + 1) bytes) one
    (more ∙ ap (λ l. Ok (at mode.HexString place.Data l k d c)) (append_assoc g (b ∷ []) bytes))
