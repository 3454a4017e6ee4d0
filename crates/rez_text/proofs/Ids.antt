-- The ID and the name of a resource: what is printed is read again.
use Rattle.rez_text.proofs.Cited.{◌≡◌, ◌<◌, ◌≤◌, ◌==◌, inl, inr, ℕ, ℤ, pos, negsuc, neg_ℤ, zero, suc, ◌+◌, ◌-◌, ◌*◌, ◌/◌, ◌%◌, Bool, true}
use Rattle.rez_text.proofs.Cited.{false, nat_lt, Ok, Option, Some, None, List, [], ◌∷◌, ◌++◌, length, IfSome, refl, ap, ◌∙◌, arith, le-ltb}
use Rattle.rez_text.proofs.Cited.{eqb-true, FitsSigned, agree_below_at, agree_below, decimal_by_steps, w16, digits, signed_decimal, Ref}
use Rattle.rez_text.proofs.Cited.{Lettering, Place, Said, State, no_ref, number, mark, is_blank, step, between, after_zero, in_number}
use Rattle.rez_text.proofs.Cited.{is_digit, digit_in, AreBytes, in_quotes, name_argument}
use Rattle.std.specs.Fmt.{decimal as in_decimal}
use Rattle.rez_text.specs.declared.mode.Radix.TheVariants as radix
use Rattle.rez_text.specs.declared.mode.Mode.TheVariants as mode
use Rattle.rez_text.specs.declared.mode.Place.TheVariants as place
use Rattle.rez_text.proofs.Steps.{at, run, after}
use Rattle.rez_text.proofs.Digits.{has_value, value_is}
use Rattle.rez_text.proofs.Quotes.{name_run}
use Rattle.rez_text.proofs.Arguments.{Argues}

-- Decimal digits.

-- the first digit of a number, which is no 0
first_digit : (x : ℕ) (p : Place) (k : ℕ) (d : Ref) (c : Said) → is_blank x ≡ false → (x == 47) ≡ false
    → (x == 34) ≡ false → (x == 39) ≡ false → (x == 36) ≡ false → (x == 48) ≡ false → is_digit x ≡ true
    → step x (at mode.Between p [] k d c) ≡ Ok (at (mode.Number radix.Decimal (x - 48)) p [] k d c)
unfolding step between
first_digit x p k d c b s q t h z e = rw (b, s, q, t, h, z, e) refl

-- a later digit
later_digit : (x m n : ℕ) (p : Place) (k : ℕ) (d : Ref) (c : Said) → digit_in radix.Decimal x ≡ Some m
    → nat_lt 4294967295 (10 * n + m) ≡ false
    → step x (at (mode.Number radix.Decimal n) p [] k d c) ≡ Ok (at (mode.Number radix.Decimal (10 * n + m)) p [] k d c)
unfolding step in_number
later_digit x m n p k d c e small = rw (e, small) refl

-- the digits of a number of 32 bits lead to it
abbrev Spells : ℕ → List ℕ → Type 0
Spells n ds = 0 < n → n ≤ 4294967295 → (p : Place) (k : ℕ) (d : Ref) (c : Said)
    → run (Ok (at mode.Between p [] k d c)) ds ≡ Ok (at (mode.Number radix.Decimal n) p [] k d c)

no_other : (f : ℕ → Bool) (n : ℕ) → n < 10 → agree_below (λ m. f (48 + m)) (λ _. false) 10 ≡ true → f (48 + n) ≡ false
no_other f n small h = agree_below_at (λ m. f (48 + m)) (λ _. false) 10 n h small

no_zero : (n : ℕ) → 0 < n → (48 + n == 48) ≡ false
no_zero n positive = cases (48 + n == 48) refl
  where
    cases : (t : Bool) → (48 + n == 48) ≡ t → t ≡ false
    cases true e = let same : 48 + n ≡ 48 = eqb-true (48 + n) 48 e in absurd (omega arith)
    cases false e = refl

one_digit : (n : ℕ) → n < 10 → Spells n ((48 + n) ∷ [])
one_digit n small positive fits p k d c =
    let value : 48 + n - 48 ≡ n = omega arith in
    first_digit (48 + n) p k d c (no_other is_blank n small refl) (no_other (λ x. x == 47) n small refl)
    (no_other (λ x. x == 34) n small refl) (no_other (λ x. x == 39) n small refl) (no_other (λ x. x == 36) n small refl)
    (no_zero n positive) (agree_below_at (λ m. is_digit (48 + m)) (λ _. true) 10 n refl small)
    ∙ ap (λ m. Ok (at (mode.Number radix.Decimal m) p [] k d c)) value

decimal_read : (m : ℕ) → m < 10 → digit_in radix.Decimal (48 + m) ≡ Some m
decimal_read m h =
    value_is _ m (agree_below_at (λ n. has_value (digit_in radix.Decimal (48 + n)) n) (λ _. true) 10 m refl h)

more_digits : (n : ℕ) (ds : List ℕ) → 10 ≤ n → Spells (n / 10) ds → Spells n (ds ++ ((48 + n % 10) ∷ []))
more_digits n ds large front positive fits p k d c =
    let last : n % 10 < 10 = omega arith in
    let some : 0 < n / 10 = omega arith in
    let before : n / 10 ≤ 4294967295 = omega arith in
    let value : 10 * (n / 10) + n % 10 ≡ n = omega arith in
    let within : 10 * (n / 10) + n % 10 ≤ 4294967295 = omega arith in
    after (at mode.Between p [] k d c) (at (mode.Number radix.Decimal (n / 10)) p [] k d c) _ ds ((48 + n % 10) ∷ [])
    (front some before p k d c)
    (later_digit (48 + n % 10) (n % 10) (n / 10) p k d c (decimal_read (n % 10) last) (le-ltb 4294967295 _ within)
    ∙ ap (λ m. Ok (at (mode.Number radix.Decimal m) p [] k d c)) value)

decimal_run : (n : ℕ) → 0 < n → n ≤ 4294967295 → (p : Place) (k : ℕ) (d : Ref) (c : Said)
    → run (Ok (at mode.Between p [] k d c)) (in_decimal n) ≡ Ok (at (mode.Number radix.Decimal n) p [] k d c)
decimal_run n positive fits = decimal_by_steps Spells one_digit more_digits n (omega arith) positive fits

-- The ID.

-- a resource of which only the ID is stated
abbrev pub only_id : ℤ → Ref
only_id id = record { id = id; name = None; attrs = 0; datum = [] }

-- what ends an ID
id_comma : (n k : ℕ) (c : Said) → nat_lt 32767 n ≡ false
    → step 44 (at (mode.Number radix.Decimal n) place.Id [] k no_ref c)
    ≡ Ok (at mode.Between place.NameOrAttribute [] k (only_id (pos n)) c)
unfolding step in_number number between mark
id_comma n k c e = rw e refl

id_close : (n k : ℕ) (c : Said) → nat_lt 32767 n ≡ false
    → step 41 (at (mode.Number radix.Decimal n) place.Id [] k no_ref c)
    ≡ Ok (at mode.Between place.Brace [] k (only_id (pos n)) c)
unfolding step in_number number between mark
id_close n k c e = rw e refl

negative_comma : (n k : ℕ) (c : Said) → nat_lt 32768 n ≡ false
    → step 44 (at (mode.Number radix.Decimal n) place.Negative [] k no_ref c)
    ≡ Ok (at mode.Between place.NameOrAttribute [] k (only_id (neg_ℤ (pos n))) c)
unfolding step in_number number between mark
negative_comma n k c e = rw e refl

negative_close : (n k : ℕ) (c : Said) → nat_lt 32768 n ≡ false
    → step 41 (at (mode.Number radix.Decimal n) place.Negative [] k no_ref c)
    ≡ Ok (at mode.Between place.Brace [] k (only_id (neg_ℤ (pos n))) c)
unfolding step in_number number between mark
negative_close n k c e = rw e refl

-- the ID 0
zero_run : (k : ℕ) (c : Said)
    → run (Ok (at mode.Between place.Id [] k no_ref c)) (signed_decimal (pos 0)) ≡ Ok (at mode.Zero place.Id [] k no_ref c)
unfolding step between digits
zero_run k c = refl

zero_comma : (k : ℕ) (c : Said)
    → step 44 (at mode.Zero place.Id [] k no_ref c) ≡ Ok (at mode.Between place.NameOrAttribute [] k (only_id (pos 0)) c)
unfolding step after_zero in_number number between mark
zero_comma k c = refl

zero_close : (k : ℕ) (c : Said)
    → step 41 (at mode.Zero place.Id [] k no_ref c) ≡ Ok (at mode.Between place.Brace [] k (only_id (pos 0)) c)
unfolding step after_zero in_number number between mark
zero_close k c = refl

minus_run : (k : ℕ) (c : Said)
    → run (Ok (at mode.Between place.Id [] k no_ref c)) (45 ∷ []) ≡ Ok (at mode.Between place.Negative [] k no_ref c)
unfolding step between mark
minus_run k c = refl

-- An ID leads to a state that waits for a comma, after which a name may come, or for a closing parenthesis.
pub record Named (s : State) (k : ℕ) (d : Ref) (c : Said) : Type 0 where
  pub comma : step 44 s ≡ Ok (at mode.Between place.NameOrAttribute [] k d c)
  pub close : step 41 s ≡ Ok (at mode.Between place.Brace [] k d c)

pub id_run : (id : ℤ) (k : ℕ) (c : Said) → FitsSigned w16 id → (t : State)
    × (run (Ok (at mode.Between place.Id [] k no_ref c)) (signed_decimal id) ≡ Ok t) × Named t k (only_id id) c
id_run (pos zero) k c fits = (
  at mode.Zero place.Id [] k no_ref c,
  zero_run k c,
  record { comma = zero_comma k c; close = zero_close k c },
)
id_run (pos (suc n)) k c fits =
    let small : suc n ≤ 32767 = omega arith in
    let within : nat_lt 32767 (suc n) ≡ false = le-ltb 32767 (suc n) small in (
      at (mode.Number radix.Decimal (suc n)) place.Id [] k no_ref c,
      decimal_run (suc n) (omega arith) (omega arith) place.Id k no_ref c,
      record { comma = id_comma (suc n) k c within; close = id_close (suc n) k c within },
    )
id_run (negsuc n) k c fits =
    let small : suc n ≤ 32768 = omega arith in
    let within : nat_lt 32768 (suc n) ≡ false = le-ltb 32768 (suc n) small in
    let s = at mode.Between place.Id [] k no_ref c in (
      at (mode.Number radix.Decimal (suc n)) place.Negative [] k no_ref c,
      after s (at mode.Between place.Negative [] k no_ref c) _ (45 ∷ []) (in_decimal (suc n)) (minus_run k c)
          (decimal_run (suc n) (omega arith) (omega arith) place.Negative k no_ref c),
      record { comma = negative_comma (suc n) k c within; close = negative_close (suc n) k c within },
    )

-- The name.

-- a resource of which only the ID and the name are stated
abbrev pub named : ℤ → Option (List ℕ) → Ref
named id name = record { id = id; name = name; attrs = 0; datum = [] }

behind_comma : (k : ℕ) (d : Ref) (c : Said)
    → step 44 (at mode.Between place.AfterArgument [] k d c) ≡ Ok (at mode.Between place.Attribute [] k d c)
unfolding step between mark
behind_comma k d c = refl

behind_close : (k : ℕ) (d : Ref) (c : Said)
    → step 41 (at mode.Between place.AfterArgument [] k d c) ≡ Ok (at mode.Between place.Brace [] k d c)
unfolding step between mark
behind_close k d c = refl

blank_run : (k : ℕ) (d : Ref) (c : Said)
    → run (Ok (at mode.Between place.NameOrAttribute [] k d c)) (32 ∷ [])
    ≡ Ok (at mode.Between place.NameOrAttribute [] k d c)
unfolding step between
blank_run k d c = refl

pub named_run : (lettering : Lettering) (name : Option (List ℕ)) (id : ℤ) (s : State) (k : ℕ) (c : Said)
    → IfSome name (λ text. length text ≤ 255) → IfSome name AreBytes → Named s k (only_id id) c
    → Argues s (name_argument lettering name) k (named id name) c
named_run lettering None id s k c short small waits = (s, refl, record { comma = inl waits.comma; close = waits.close })
named_run lettering (Some text) id s k c short small waits =
    let t = at mode.Between place.NameOrAttribute [] k (only_id id) c in
    let u = at mode.Between place.AfterArgument [] k (named id (Some text)) c in (
      u,
      after s t _ (44 ∷ []) (32 ∷ [] ++ in_quotes lettering 34 text) waits.comma
          (after t t _ (32 ∷ []) (in_quotes lettering 34 text) (blank_run k (only_id id) c)
          (name_run lettering text k (only_id id) c small short)),
      record { comma = inr (behind_comma k (named id (Some text)) c); close = behind_close k (named id (Some text)) c },
    )
