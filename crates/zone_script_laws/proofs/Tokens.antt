use Rattle.zone_script_laws.proofs.Cited.{◌≡◌, ℕ, ◌+◌, ◌≤◌, Bool, true, false, ◌==◌, ◌&&◌, not, nat_le, nat_lt, List, [], ◌∷◌, ◌++◌, refl}
use Rattle.zone_script_laws.proofs.Cited.{◌∙◌, ap, cond, subst, Some, None, Result, Ok, Err, arith, length, take, drop, append-nil}
use Rattle.zone_script_laws.proofs.Cited.{length-append, unwrap_or, list_all, position_or_len, ok_or, take-append_seam, drop-append_seam}
use Rattle.zone_script_laws.proofs.Cited.{and_parts, cond-true, cond-false, le-leb, ltb-false, FaultKind, BadArgument, ◌>>=◌, place}
use Rattle.zone_script_laws.proofs.Cited.{is_blank, after_blanks, token_len, may_end, cut_token, token_at, Kind, Value, value}
use Rattle.zone_script_laws.proofs.Cited.{is_label_byte, argument, arguments}
use Rattle.std.specs.Prelude.{Option}
use Rattle.zone_script_laws.proofs.Letters.{letter-not, letter-blank, no-blanks}

-- The tokens of a line are found again, and are read as arguments.

-- the place of the first byte that passes, after some that do not
place-after : (test : ℕ → Bool) (w rest : List ℕ) (c : ℕ) → list_all (λ b. not (test b)) w ≡ true → test c ≡ true
    → position_or_len test (w ++ c ∷ rest) ≡ length w
place-after test [] rest c none passes = cond-false (not (test c)) (1 + position_or_len test rest) 0 (ap not passes)
place-after test (b ∷ w) rest c none passes =
    let parts = and_parts (not (test b)) (list_all (λ d. not (test d)) w) none in
    cond-true (not (test b)) (1 + position_or_len test (w ++ c ∷ rest)) 0 parts.0
    ∙ omega (arith, place-after test w rest c parts.1 passes)

place-none : (test : ℕ → Bool) (w : List ℕ) → list_all (λ b. not (test b)) w ≡ true → position_or_len test w ≡ length w
place-none test [] none = refl
place-none test (b ∷ w) none =
    let parts = and_parts (not (test b)) (list_all (λ d. not (test d)) w) none in
    cond-true (not (test b)) (1 + position_or_len test w) 0 parts.0 ∙ omega (arith, place-none test w parts.1)

place-is : (test : ℕ → Bool) (text : List ℕ) (n : ℕ) → position_or_len test text ≡ n → n ≤ length text → place test text ≡ n
place-is test text n is inside =
    ap (λ k. unwrap_or (cond (nat_lt k (length text)) (Some k) None) (length text)) is ∙ cases (nat_lt n (length text)) refl
  where
    cases : (t : Bool) → nat_lt n (length text) ≡ t → unwrap_or (cond t (Some n) None) (length text) ≡ n
    cases true e = refl
    cases false e = omega (arith, ltb-false n (length text) e)

-- blanks before a byte that is none
pub after-none : (c : ℕ) (rest : List ℕ) → is_blank c ≡ false → after_blanks (c ∷ rest) ≡ c ∷ rest
unfolding after_blanks
after-none c rest plain = ap (λ k. drop k (c ∷ rest)) (place-is (λ b. not (is_blank b)) (c ∷ rest) 0
    (place-after (λ b. not (is_blank b)) [] rest c refl (ap not plain)) (omega arith))

pub after-one : (c : ℕ) (rest : List ℕ) → is_blank c ≡ false → after_blanks (32 ∷ c ∷ rest) ≡ c ∷ rest
unfolding after_blanks
after-one c rest plain = ap (λ k. drop k (32 ∷ c ∷ rest)) (place-is (λ b. not (is_blank b)) (32 ∷ c ∷ rest) 1
    (place-after (λ b. not (is_blank b)) (32 ∷ []) rest c refl (ap not plain)) (omega arith))

-- a token of letters ends where it may end
pub place-blank : (token rest : List ℕ) → list_all is_label_byte token ≡ true → may_end rest ≡ true
    → place is_blank (token ++ rest) ≡ length token
place-blank token [] letters end = place-is is_blank (token ++ []) (length token)
    (ap (position_or_len is_blank) (append-nil token) ∙ place-none is_blank token (no-blanks token letters))
    (omega (arith, length-append token []))
place-blank token (c ∷ rest) letters end = place-is is_blank (token ++ c ∷ rest) (length token)
    (place-after is_blank token rest c (no-blanks token letters) end) (omega (arith, length-append token (c ∷ rest)))

pub len-is : (c : ℕ) (w rest : List ℕ) → list_all is_label_byte (c ∷ w) ≡ true → may_end rest ≡ true
    → token_len ((c ∷ w) ++ rest) ≡ length (c ∷ w)
len-is c w rest letters end =
    let is = (and_parts (is_label_byte c) (list_all is_label_byte w) letters).0 in
    cond-false (c == 34) _ _ (letter-not c 34 is refl) ∙ cond-false (c == 39) _ _ (letter-not c 39 is refl)
    ∙ place-blank (c ∷ w) rest letters end

cut-is : (token rest : List ℕ) → may_end rest ≡ true → cut_token (length token) (token ++ rest) ≡ Ok (token, rest)
cut-is token rest end =
    ap (λ r. cut (inside && may_end r) (take (length token) (token ++ rest)) r) (drop-append_seam token rest)
    ∙ ap (λ t. cut (inside && may_end rest) t rest) (take-append_seam token rest)
    ∙ ap (λ b. cut (b && may_end rest) token rest)
    (le-leb (length token) (length (token ++ rest)) (omega (arith, length-append token rest)))
    ∙ ap (λ b. cut b token rest) end
  where
    inside : Bool
    inside = nat_le (length token) (length (token ++ rest))

    cut : Bool → List ℕ → List ℕ → Result (List ℕ × List ℕ) FaultKind
    cut b t r = cond b (Ok (t, r)) (Err BadArgument)

pub token-is : (c : ℕ) (w rest : List ℕ) → list_all is_label_byte (c ∷ w) ≡ true → may_end rest ≡ true
    → token_at ((c ∷ w) ++ rest) ≡ Ok (c ∷ w, rest)
unfolding token_at
token-is c w rest letters end =
    ap (λ k. cut_token k ((c ∷ w) ++ rest)) (len-is c w rest letters end) ∙ cut-is (c ∷ w) rest end

-- a token as an argument, after a blank
pub argument-is : (kind : Kind) (c : ℕ) (w rest : List ℕ) (v : Value) → list_all is_label_byte (c ∷ w) ≡ true → may_end rest ≡ true
    → value kind (c ∷ w) ≡ Some v → argument kind (32 ∷ (c ∷ w) ++ rest) ≡ Ok (v, rest)
unfolding argument
argument-is kind c w rest v letters end is =
    let plain = letter-blank c (and_parts (is_label_byte c) (list_all is_label_byte w) letters).0 in
    ap (λ t. token_at t >>= next) (after-one c (w ++ rest) plain)
    ∙ ap (λ r. r >>= next) (token-is c w rest letters end)
    ∙ ap (λ o. found rest o) is
  where
    found : List ℕ → Option Value → Result (Value × List ℕ) FaultKind
    found rest o = ok_or o BadArgument >>= λ v. Ok (v, rest)

    next : List ℕ × List ℕ → Result (Value × List ℕ) FaultKind
    next token = found token.1 (value kind token.0)

-- one argument at the end of a line, and another before it
pub one-argument : (kind : Kind) (c : ℕ) (w : List ℕ) (v : Value) → list_all is_label_byte (c ∷ w) ≡ true → value kind (c ∷ w) ≡ Some v
    → arguments (kind ∷ []) (32 ∷ c ∷ w) ≡ Ok (v ∷ [])
unfolding after_blanks
one-argument kind c w v letters is =
    ap (λ r. r >>= λ first. arguments [] first.1 >>= λ others. Ok (first.0 ∷ others))
    (subst (λ t. argument kind (32 ∷ c ∷ t) ≡ Ok (v, [])) (append-nil w) (argument-is kind c w [] v letters refl is))

pub two-arguments : (kind other : Kind) (c : ℕ) (w rest : List ℕ) (v u : Value) → list_all is_label_byte (c ∷ w) ≡ true
    → value kind (c ∷ w) ≡ Some v → arguments (other ∷ []) (32 ∷ rest) ≡ Ok (u ∷ [])
    → arguments (kind ∷ other ∷ []) (32 ∷ (c ∷ w) ++ 32 ∷ rest) ≡ Ok (v ∷ u ∷ [])
two-arguments kind other c w rest v u letters is more =
    ap (λ r. r >>= λ first. arguments (other ∷ []) first.1 >>= λ others. Ok (first.0 ∷ others))
    (argument-is kind c w (32 ∷ rest) v letters refl is)
    ∙ ap (λ r. r >>= λ others. Ok (v ∷ others)) more
