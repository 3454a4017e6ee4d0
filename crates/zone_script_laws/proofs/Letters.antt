use Rattle.zone_script_laws.proofs.Cited.{◌≡◌, ℕ, Bool, true, false, ◌==◌, ◌&&◌, ◌||◌, not, List, [], ◌∷◌, refl, sym, ◌∙◌, ap, true≢false}
use Rattle.zone_script_laws.proofs.Cited.{list_all, and_parts, eqb-true, false_from_ne_true, is_blank, is_label_byte}

-- Letters, digits and underscores, of which the tokens of a written line are made.

-- what holds of each byte of a text
pub all-weaker : (p q : ℕ → Bool) → ((c : ℕ) → p c ≡ true → q c ≡ true) → (text : List ℕ)
    → list_all p text ≡ true → list_all q text ≡ true
all-weaker p q weaker [] all = refl
all-weaker p q weaker (c ∷ text) all =
    let parts = and_parts (p c) (list_all p text) all in
    ap (λ t. t && list_all q text) (weaker c parts.0) ∙ all-weaker p q weaker text parts.1

-- a letter is none of the other bytes
pub letter-not : (c k : ℕ) → is_label_byte c ≡ true → is_label_byte k ≡ false → (c == k) ≡ false
letter-not c k is other = false_from_ne_true (c == k) (λ e. true≢false (sym is ∙ ap is_label_byte (eqb-true c k e) ∙ other))

pub letter-blank : (c : ℕ) → is_label_byte c ≡ true → is_blank c ≡ false
letter-blank c is = ap (λ t. t || (c == 9)) (letter-not c 32 is refl) ∙ letter-not c 9 is refl

pub no-blanks : (token : List ℕ) → list_all is_label_byte token ≡ true → list_all (λ b. not (is_blank b)) token ≡ true
no-blanks token all = all-weaker is_label_byte (λ b. not (is_blank b)) (λ c is. ap not (letter-blank c is)) token all

-- a byte that stands within a line: no LF, and no CR, which would be dropped before an LF
abbrev pub is_plain : ℕ → Bool
is_plain c = not (c == 10) && not (c == 13)

pub letter-plain : (c : ℕ) → is_label_byte c ≡ true → is_plain c ≡ true
letter-plain c is = ap (λ t. not t && not (c == 13)) (letter-not c 10 is refl) ∙ ap not (letter-not c 13 is refl)

pub all-plain : (token : List ℕ) → list_all is_label_byte token ≡ true → list_all is_plain token ≡ true
all-plain token all = all-weaker is_label_byte is_plain letter-plain token all
