use Rattle.zone_script_laws.proofs.Cited.{◌≡◌, ℕ, ◌+◌, ◌-◌, ◌≤◌, suc, Bool, true, false, ◌==◌, ◌&&◌, not, nat_lt, List, [], ◌∷◌, ◌++◌, refl}
use Rattle.zone_script_laws.proofs.Cited.{◌∙◌, ap, map, Ok, Err, arith, length, take, append_assoc, length-append, codes, decimal, list_all}
use Rattle.zone_script_laws.proofs.Cited.{slice_split, lines, strip_carriage_return, and_parts, cond-true, cond-false, eqb-true, not-true}
use Rattle.zone_script_laws.proofs.Cited.{le-ltb, Form, LongLine, is_blank, after_blanks, Above, with_text, longest_line, read_at}
use Rattle.zone_script_laws.proofs.Cited.{read_from, at_line, hex_text, bits_phrase, zone_phrase, size_phrase, head_text, notes_text}
use Rattle.real_zone.specs.declared.form.Form.TheVariants as form
use Rattle.zone_script_laws.proofs.Letters.{is_plain, all-plain}
use Rattle.zone_script_laws.proofs.Lines.{ends, lines-before}
use Rattle.zone_script_laws.proofs.Tokens.{after-none}
use Rattle.zone_script_laws.proofs.Words.{hex-letters, hex-long, decimal-letters, decimal-long}
use Rattle.zone_script_laws.proofs.Written.{plain-after, read-next}

-- The comments above the calls of a script are skipped.

abbrev is_comment : List ℕ → Bool
is_comment [] = false
is_comment (c ∷ rest) = c == 35 && not (nat_lt longest_line (length (c ∷ rest)))

comment-read : (n : ℕ) (a : Above) (line : List ℕ) → is_comment line ≡ true → read_at n a line ≡ Ok a
unfolding read_at
comment-read n a [] is = let f : false ≡ true = is in cc
comment-read n a (c ∷ rest) is =
    let parts = and_parts (c == 35) (not (nat_lt longest_line (length (c ∷ rest)))) is in
    cond-false (nat_lt longest_line (length (c ∷ rest))) (Err LongLine) (with_text n a (after_blanks (c ∷ rest))) (not-true _ parts.1)
    ∙ ap (with_text n a) (after-none c rest (ap is_blank (eqb-true c 35 parts.0)))
    ∙ cond-true (c == 35) (Ok a) _ parts.0

comments-read : (comments more : List (List ℕ)) (n : ℕ) (a : Above) → list_all is_comment comments ≡ true
    → read_from n a (comments ++ more) ≡ read_from (n + length comments) a more
comments-read [] more n a all = ap (λ k. read_from k a more) (let z : n ≡ n + 0 = omega arith in z)
comments-read (line ∷ comments) more n a all =
    let parts = and_parts (is_comment line) (list_all is_comment comments) all in
    ap (λ r. at_line n r (λ next. read_from (n + 1) next (comments ++ more))) (comment-read n a line parts.0)
    ∙ comments-read comments more (n + 1) a parts.1
    ∙ ap (λ k. read_from k a more) (let z : n + 1 + length comments ≡ n + suc (length comments) = omega arith in z)

-- the notes
notes_front : List ℕ
notes_front = take (length notes_text - 1) notes_text

notes_lines : List (List ℕ)
notes_lines = map strip_carriage_return (slice_split ends notes_front)

notes-end : notes_text ≡ notes_front ++ 10 ∷ []
unfolding notes_text notes_front
notes-end = refl

notes-are : list_all is_comment notes_lines ≡ true
unfolding notes_text notes_front notes_lines
notes-are = refl

notes-count : length notes_lines ≡ 8
unfolding notes_text notes_front notes_lines
notes-count = refl

pub notes-read : (n : ℕ) (a : Above) (more : List ℕ) → read_from n a (lines (notes_text ++ more)) ≡ read_from (n + 8) a (lines more)
unfolding notes_lines
notes-read n a more =
    ap (λ t. read_from n a (lines (t ++ more))) notes-end
    ∙ ap (λ t. read_from n a (lines t)) (append_assoc notes_front (10 ∷ []) more)
    ∙ ap (read_from n a) (lines-before notes_front more)
    ∙ comments-read notes_lines (lines more) n a notes-are
    ∙ ap (λ k. read_from (n + k) a (lines more)) notes-count

-- the head
bits-plain : (f : Form) → list_all is_plain (bits_phrase f) ≡ true
unfolding bits_phrase
bits-plain form.Bits24 = refl
bits-plain form.Bits32 = refl

bits-long : (f : Form) → length (bits_phrase f) ≡ 23
unfolding bits_phrase
bits-long form.Bits24 = refl
bits-long form.Bits32 = refl

-- its words after the zone, without its end
abbrev words_of : ℕ → List ℕ
words_of size = codes " made anew in a fresh partition of " ++ (decimal size ++ codes " bytes.")

words-plain : (size : ℕ) → size ≤ 2147483647 → list_all is_plain (words_of size) ≡ true
words-plain size small =
    plain-after (decimal size) (codes " bytes.") (all-plain (decimal size) (decimal-letters size (omega arith))) refl

words-long : (size : ℕ) → size ≤ 2147483647 → length (words_of size) ≤ 52
words-long size small = omega (arith, length-append (decimal size) (codes " bytes."), decimal-long size small)

abbrev head : Form → ℕ → ℕ → List ℕ
head f zone size = codes "# The zone at " ++ (hex_text zone ++ (bits_phrase f ++ words_of size))

regrouped : (a b c d e g more : List ℕ) → (((a ++ b) ++ c) ++ ((d ++ e) ++ (g ++ 10 ∷ []))) ++ more
    ≡ (a ++ (b ++ (c ++ (d ++ (e ++ g))))) ++ 10 ∷ more
regrouped a b c d e g more = simp append_assoc

head-is : (f : Form) (zone size : ℕ) (more : List ℕ) → head_text f zone size ++ more ≡ head f zone size ++ 10 ∷ more
unfolding zone_phrase size_phrase
head-is f zone size more =
    regrouped (codes "# The zone at ") (hex_text zone) (bits_phrase f) (codes " made anew in a fresh partition of ") (decimal size)
    (codes " bytes.") more

head-plain : (f : Form) (zone size : ℕ) → size ≤ 2147483647 → list_all is_plain (head f zone size) ≡ true
head-plain f zone size small =
    plain-after (hex_text zone) (bits_phrase f ++ words_of size) (all-plain (hex_text zone) (hex-letters zone))
    (plain-after (bits_phrase f) (words_of size) (bits-plain f) (words-plain size small))

head-long : (f : Form) (zone size : ℕ) → size ≤ 2147483647 → length (head f zone size) ≤ 100
head-long f zone size small =
    let all = length-append (hex_text zone) (bits_phrase f ++ words_of size) in
    let rest = length-append (bits_phrase f) (words_of size) in
    omega (arith, hex-long zone, bits-long f, words-long size small)

pub head-read : (f : Form) (zone size n : ℕ) (a : Above) (more : List ℕ) → size ≤ 2147483647
    → read_from n a (lines (head_text f zone size ++ more)) ≡ read_from (n + 1) a (lines more)
head-read f zone size n a more small =
    ap (λ t. read_from n a (lines t)) (head-is f zone size more)
    ∙ read-next n a a (head f zone size) more (head-plain f zone size small) (comment-read n a (head f zone size) (ap not short))
  where
    short : nat_lt longest_line (length (head f zone size)) ≡ false
    short = le-ltb 65535 (length (head f zone size)) (omega (arith, head-long f zone size small))
