-- The arguments of a statement: what is printed is read again.
use Rattle.rez_text.proofs.Cited.{◌≡◌, ◌<◌, ◌≤◌, ◌==◌, ◌⊎◌, inl, inr, ℕ, ◌+◌, ◌*◌, ◌/◌, ◌%◌, Bool, true, false, cond, nat_lt, bit_and}
use Rattle.rez_text.proofs.Cited.{bit_or, codes, Ok, Some, List, [], ◌∷◌, ◌++◌, refl, ap, ◌∙◌, sym, subst, arith, eqb-true, le-ltb}
use Rattle.rez_text.proofs.Cited.{agree_below_at, Ref, upper_digit, Place, Said, State, attribute, word, number, mark, hex_value, step}
use Rattle.rez_text.proofs.Cited.{between, in_word, dollar, in_number, digit_in, byte_hex, word_for, attribute_words, attributes_argument}
use Rattle.rez_text.specs.declared.mode.Radix.TheVariants as radix
use Rattle.rez_text.specs.declared.mode.Mode.TheVariants as mode
use Rattle.rez_text.specs.declared.mode.Place.TheVariants as place
use Rattle.rez_text.proofs.Steps.{at, run, after}
use Rattle.rez_text.proofs.Digits.{digit_value, digit_read, digit_no_quote}

-- A state that waits for a comma or a closing parenthesis, perhaps within a word or a number, with what the resource is
-- once that has come.
pub record Waits (s : State) (k : ℕ) (d : Ref) (c : Said) : Type 0 where
  pub comma : (step 44 s ≡ Ok (at mode.Between place.NameOrAttribute [] k d c))
      ⊎ (step 44 s ≡ Ok (at mode.Between place.Attribute [] k d c))
  pub close : step 41 s ≡ Ok (at mode.Between place.Brace [] k d c)

-- A stretch of arguments leads to such a state.
abbrev pub Argues : State → List ℕ → ℕ → Ref → Said → Type 0
Argues s text k d c = (t : State) × (run (Ok s) text ≡ Ok t) × Waits t k d c

-- one stretch of arguments after another
pub argues_on : (s : State) (xs ys : List ℕ) (k : ℕ) (d e : Ref) (c : Said) → Argues s xs k d c
    → ((t : State) → Waits t k d c → Argues t ys k e c) → Argues s (xs ++ ys) k e c
argues_on s xs ys k d e c first go =
    let next = go first.0 first.2 in
    (next.0, after s first.0 _ xs ys first.1 next.1, next.2)

-- a resource with other attributes
abbrev pub with_attrs : Ref → ℕ → Ref
with_attrs d n = record { id = d.id; name = d.name; attrs = n; datum = d.datum }

-- Attributes by their words.

-- what ends a word that states an attribute
word_comma : (w : List ℕ) (bit k : ℕ) (d : Ref) (c : Said) → attribute w ≡ Some bit
    → step 44 (at mode.Word place.NameOrAttribute w k d c)
    ≡ Ok (at mode.Between place.Attribute [] k (with_attrs d (bit_or d.attrs bit)) c)
unfolding step in_word word between mark
word_comma w bit k d c e = rw e refl

word_close : (w : List ℕ) (bit k : ℕ) (d : Ref) (c : Said) → attribute w ≡ Some bit
    → step 41 (at mode.Word place.NameOrAttribute w k d c)
    ≡ Ok (at mode.Between place.Brace [] k (with_attrs d (bit_or d.attrs bit)) c)
unfolding step in_word word between mark
word_close w bit k d c e = rw e refl

later_comma : (w : List ℕ) (bit k : ℕ) (d : Ref) (c : Said) → attribute w ≡ Some bit
    → step 44 (at mode.Word place.Attribute w k d c)
    ≡ Ok (at mode.Between place.Attribute [] k (with_attrs d (bit_or d.attrs bit)) c)
unfolding step in_word word between mark
later_comma w bit k d c e = rw e refl

later_close : (w : List ℕ) (bit k : ℕ) (d : Ref) (c : Said) → attribute w ≡ Some bit
    → step 41 (at mode.Word place.Attribute w k d c)
    ≡ Ok (at mode.Between place.Brace [] k (with_attrs d (bit_or d.attrs bit)) c)
unfolding step in_word word between mark
later_close w bit k d c e = rw e refl

-- a blank and the letters of a word are gathered
abbrev IsWord : List ℕ → Type 0
IsWord w = (p : Place) (k : ℕ) (d : Ref) (c : Said)
    → run (Ok (at mode.Between p [] k d c)) (32 ∷ w) ≡ Ok (at mode.Word p w k d c)

word_argument : (w : List ℕ) (bit : ℕ) (s : State) (k : ℕ) (d : Ref) (c : Said) → IsWord w → attribute w ≡ Some bit
    → Waits s k d c → Argues s (codes ", " ++ w) k (with_attrs d (bit_or d.attrs bit)) c
word_argument w bit s k d c spelled e waits =
    elim waits.comma [
      | inl h ↦ (
        at mode.Word place.NameOrAttribute w k d c,
        after s (at mode.Between place.NameOrAttribute [] k d c) _ (44 ∷ []) (32 ∷ w) h
            (spelled place.NameOrAttribute k d c),
        record { comma = inr (word_comma w bit k d c e); close = word_close w bit k d c e },
      )
      | inr h ↦ (
        at mode.Word place.Attribute w k d c,
        after s (at mode.Between place.Attribute [] k d c) _ (44 ∷ []) (32 ∷ w) h (spelled place.Attribute k d c),
        record { comma = inr (later_comma w bit k d c e); close = later_close w bit k d c e },
      )
    ]

-- attributes with a bit that others have
abbrev or_if : ℕ → ℕ → ℕ → ℕ
or_if attrs bit n = cond (bit_and attrs bit == 0) n (bit_or n bit)

word_for_run : (w : List ℕ) (bit attrs : ℕ) (s : State) (k : ℕ) (d : Ref) (c : Said) → IsWord w
    → attribute w ≡ Some bit → Waits s k d c
    → Argues s (word_for bit w attrs) k (with_attrs d (or_if attrs bit d.attrs)) c
word_for_run w bit attrs s k d c spelled e waits =
    elim (bit_and attrs bit == 0) as (λ v. Argues s (cond v [] (codes ", " ++ w)) k
    (with_attrs d (cond v d.attrs (bit_or d.attrs bit))) c) [
      | true ↦ (s, refl, waits)
      | false ↦ word_argument w bit s k d c spelled e waits
    ]

is_sysheap : IsWord (codes "sysheap")
unfolding step between in_word
is_sysheap p k d c = refl

is_purgeable : IsWord (codes "purgeable")
unfolding step between in_word
is_purgeable p k d c = refl

is_locked : IsWord (codes "locked")
unfolding step between in_word
is_locked p k d c = refl

is_protected : IsWord (codes "protected")
unfolding step between in_word
is_protected p k d c = refl

is_preload : IsWord (codes "preload")
unfolding step between in_word
is_preload p k d c = refl

-- the bits of all words that attributes have
abbrev worded : ℕ → ℕ → ℕ
worded attrs n = or_if attrs 4 (or_if attrs 8 (or_if attrs 16 (or_if attrs 32 (or_if attrs 64 n))))

words_run : (attrs : ℕ) (s : State) (k : ℕ) (d : Ref) (c : Said) → Waits s k d c
    → Argues s (attribute_words attrs) k (with_attrs d (worded attrs d.attrs)) c
words_run attrs s k d c waits =
    let n1 = or_if attrs 64 d.attrs in
    let n2 = or_if attrs 32 n1 in
    let n3 = or_if attrs 16 n2 in
    let n4 = or_if attrs 8 n3 in
    let n5 = or_if attrs 4 n4 in
    let a = word_for 64 (codes "sysheap") attrs in
    let b = word_for 32 (codes "purgeable") attrs in
    let e = word_for 16 (codes "locked") attrs in
    let f = word_for 8 (codes "protected") attrs in
    let h = word_for 4 (codes "preload") attrs in
    argues_on s (a ++ b ++ e ++ f) h k (with_attrs d n4) (with_attrs d n5) c
    (argues_on s (a ++ b ++ e) f k (with_attrs d n3) (with_attrs d n4) c
    (argues_on s (a ++ b) e k (with_attrs d n2) (with_attrs d n3) c
    (argues_on s a b k (with_attrs d n1) (with_attrs d n2) c
    (word_for_run (codes "sysheap") 64 attrs s k d c is_sysheap refl waits)
    (λ t w. word_for_run (codes "purgeable") 32 attrs t k (with_attrs d n1) c is_purgeable refl w))
    (λ t w. word_for_run (codes "locked") 16 attrs t k (with_attrs d n2) c is_locked refl w))
    (λ t w. word_for_run (codes "protected") 8 attrs t k (with_attrs d n3) c is_protected refl w))
    (λ t w. word_for_run (codes "preload") 4 attrs t k (with_attrs d n4) c is_preload refl w)

-- Attributes as a number.

number_opens : (p : Place) (k : ℕ) (d : Ref) (c : Said)
    → run (Ok (at mode.Between p [] k d c)) (32 ∷ 36 ∷ []) ≡ Ok (at mode.Dollar p [] k d c)
unfolding step between
number_opens p k d c = refl

high_step : (x h : ℕ) (p : Place) (k : ℕ) (d : Ref) (c : Said) → (x == 34) ≡ false → hex_value x ≡ Some h
    → step x (at mode.Dollar p [] k d c) ≡ Ok (at (mode.Number radix.Hexadecimal h) p [] k d c)
unfolding step dollar
high_step x h p k d c q v = rw (q, v) refl

low_step : (x h l : ℕ) (p : Place) (k : ℕ) (d : Ref) (c : Said) → digit_in radix.Hexadecimal x ≡ Some l
    → nat_lt 4294967295 (16 * h + l) ≡ false
    → step x (at (mode.Number radix.Hexadecimal h) p [] k d c) ≡ Ok (at (mode.Number radix.Hexadecimal (16 * h + l)) p [] k d c)
unfolding step in_number
low_step x h l p k d c v small = rw (v, small) refl

number_spelled : (n : ℕ) (p : Place) (k : ℕ) (d : Ref) (c : Said) → n < 256
    → run (Ok (at mode.Between p [] k d c)) (32 ∷ 36 ∷ byte_hex n) ≡ Ok (at (mode.Number radix.Hexadecimal n) p [] k d c)
number_spelled n p k d c small =
    let high : n / 16 < 16 = omega arith in
    let low : n % 16 < 16 = omega arith in
    let whole : 16 * (n / 16) + n % 16 ≡ n = omega arith in
    let fits : 16 * (n / 16) + n % 16 ≤ 4294967295 = omega arith in
    let s = at mode.Between p [] k d c in
    let t = at mode.Dollar p [] k d c in
    let u = at (mode.Number radix.Hexadecimal (n / 16)) p [] k d c in
    after s t _ (32 ∷ 36 ∷ []) (byte_hex n) (number_opens p k d c)
    (after t u _ (upper_digit (n / 16) ∷ []) (upper_digit (n % 16) ∷ [])
    (high_step (upper_digit (n / 16)) (n / 16) p k d c (digit_no_quote _ high) (digit_value _ high))
    (low_step (upper_digit (n % 16)) (n / 16) (n % 16) p k d c (digit_read _ low) (le-ltb 4294967295 _ fits)
    ∙ ap (λ m. Ok (at (mode.Number radix.Hexadecimal m) p [] k d c)) whole))

number_comma : (n k : ℕ) (d : Ref) (c : Said) → nat_lt 255 n ≡ false
    → step 44 (at (mode.Number radix.Hexadecimal n) place.NameOrAttribute [] k d c)
    ≡ Ok (at mode.Between place.Attribute [] k (with_attrs d (bit_or d.attrs n)) c)
unfolding step in_number number between mark
number_comma n k d c e = rw e refl

number_close : (n k : ℕ) (d : Ref) (c : Said) → nat_lt 255 n ≡ false
    → step 41 (at (mode.Number radix.Hexadecimal n) place.NameOrAttribute [] k d c)
    ≡ Ok (at mode.Between place.Brace [] k (with_attrs d (bit_or d.attrs n)) c)
unfolding step in_number number between mark
number_close n k d c e = rw e refl

number_later_comma : (n k : ℕ) (d : Ref) (c : Said) → nat_lt 255 n ≡ false
    → step 44 (at (mode.Number radix.Hexadecimal n) place.Attribute [] k d c)
    ≡ Ok (at mode.Between place.Attribute [] k (with_attrs d (bit_or d.attrs n)) c)
unfolding step in_number number between mark
number_later_comma n k d c e = rw e refl

number_later_close : (n k : ℕ) (d : Ref) (c : Said) → nat_lt 255 n ≡ false
    → step 41 (at (mode.Number radix.Hexadecimal n) place.Attribute [] k d c)
    ≡ Ok (at mode.Between place.Brace [] k (with_attrs d (bit_or d.attrs n)) c)
unfolding step in_number number between mark
number_later_close n k d c e = rw e refl

number_argument : (n : ℕ) (s : State) (k : ℕ) (d : Ref) (c : Said) → n < 256 → Waits s k d c
    → Argues s (codes ", $" ++ byte_hex n) k (with_attrs d (bit_or d.attrs n)) c
number_argument n s k d c small waits =
    let fits : nat_lt 255 n ≡ false = le-ltb 255 n (omega arith) in
    elim waits.comma [
      | inl h ↦ (
        at (mode.Number radix.Hexadecimal n) place.NameOrAttribute [] k d c,
        after s (at mode.Between place.NameOrAttribute [] k d c) _ (44 ∷ []) (32 ∷ 36 ∷ byte_hex n) h
            (number_spelled n place.NameOrAttribute k d c small),
        record { comma = inr (number_comma n k d c fits); close = number_close n k d c fits },
      )
      | inr h ↦ (
        at (mode.Number radix.Hexadecimal n) place.Attribute [] k d c,
        after s (at mode.Between place.Attribute [] k d c) _ (44 ∷ []) (32 ∷ 36 ∷ byte_hex n) h
            (number_spelled n place.Attribute k d c small),
        record { comma = inr (number_later_comma n k d c fits); close = number_later_close n k d c fits },
      )
    ]

-- the words of attributes have all their bits
worded_again : (n : ℕ) → n < 256 → (bit_and n 131 == 0) ≡ true → worded n 0 ≡ n
worded_again n small h =
    let all : cond (bit_and n 131 == 0) (worded n 0 == n) true ≡ true =
    agree_below_at (λ m. cond (bit_and m 131 == 0) (worded m 0 == m) true) (λ _. true) 256 n refl small in
    eqb-true _ n (sym (ap (λ v. cond v (worded n 0 == n) true) h) ∙ all)

or_nothing : (n : ℕ) → n < 256 → bit_or 0 n ≡ n
or_nothing n small = eqb-true _ n (agree_below_at (λ m. bit_or 0 m == m) (λ _. true) 256 n refl small)

-- attributes, where none are stated yet
pub attributes_run : (n : ℕ) (s : State) (k : ℕ) (d : Ref) (c : Said) → n < 256 → d.attrs ≡ 0 → Waits s k d c
    → Argues s (attributes_argument n) k (with_attrs d n) c
attributes_run n s k d c small none waits =
    let P : List ℕ → ℕ → Type 0 = λ text m. Argues s text k (with_attrs d m) c in
    let go : (v : Bool) → (bit_and n 131 == 0) ≡ v → P (cond v (attribute_words n) (codes ", $" ++ byte_hex n)) n =
    λ v. elim v as (λ w. (bit_and n 131 == 0) ≡ w → P (cond w (attribute_words n) (codes ", $" ++ byte_hex n)) n) [
      | true ↦ λ h. subst (P (attribute_words n)) (ap (worded n) none ∙ worded_again n small h)
          (words_run n s k d c waits)
      | false ↦ λ h. subst (P (codes ", $" ++ byte_hex n)) (ap (λ m. bit_or m n) none ∙ or_nothing n small)
          (number_argument n s k d c small waits)
    ] in
    go (bit_and n 131 == 0) refl
