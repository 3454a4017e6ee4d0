-- Lines of printed characters, and the words of a line, are found again.
use Rattle.fork_edits.proofs.Cited.{◌≡◌, ℕ, ◌+◌, ◌-◌, ◌≤◌, false, List, [], ◌∷◌, ◌++◌, length, take, drop, refl, ◌∙◌, ap, arith, zero, suc}
use Rattle.fork_edits.proofs.Cited.{◌==◌, nat_le, slice_index, AllByRecursion, slice_split, onto_first, and_right, nat_tests}
use Rattle.fork_edits.proofs.Cited.{slice_split-cons_no, take_all, word_length, word, after_word, is_newline, without_return}
use Rattle.fork_edits.proofs.Naming.{IsDigits}

-- a printable character of ASCII; one that is no blank
abbrev pub IsPrint : ℕ → Type 0
IsPrint b = (32 ≤ b) × (b ≤ 126)

abbrev pub IsGraph : ℕ → Type 0
IsGraph b = (33 ≤ b) × (b ≤ 126)

pub all_weaker : (P Q : ℕ → Type 0) → ((b : ℕ) → P b → Q b) → (xs : List ℕ) → AllByRecursion P xs → AllByRecursion Q xs
all_weaker P Q weaker [] h = tt
all_weaker P Q weaker (x ∷ xs) h = (weaker x h.0, all_weaker P Q weaker xs h.1)

pub printed : (xs : List ℕ) → AllByRecursion IsGraph xs → AllByRecursion IsPrint xs
printed xs h = all_weaker IsGraph IsPrint (λ b g. (omega (arith, g.0), g.1)) xs h

pub digits_graph : (ds : List ℕ) → IsDigits ds → AllByRecursion IsGraph ds
digits_graph [] h = tt
digits_graph (d ∷ ds) h = ((omega (arith, h.0), omega (arith, h.1)), digits_graph ds h.2)

-- the first word of a text, and what stands after it
pub word_first : (w rest : List ℕ) → AllByRecursion IsGraph w → word_length (w ++ 32 ∷ rest) ≡ length w
word_first [] rest h = refl
word_first (b ∷ w) rest h =
    let low = h.0.0 in
    let no : (b == 32) ≡ false = grind (arith, nat_tests) in
    rw no (ap (λ n. suc n) (word_first w rest h.1))

pub word_last : (w : List ℕ) → AllByRecursion IsGraph w → word_length w ≡ length w
word_last [] h = refl
word_last (b ∷ w) h =
    let low = h.0.0 in
    let no : (b == 32) ≡ false = grind (arith, nat_tests) in
    rw no (ap (λ n. suc n) (word_last w h.1))

pub take_first : (w rest : List ℕ) → take (length w) (w ++ rest) ≡ w
take_first [] rest = refl
take_first (b ∷ w) rest = ap (λ l. b ∷ l) (take_first w rest)

pub drop_first : (w rest : List ℕ) (b : ℕ) → drop (length w + 1) (w ++ b ∷ rest) ≡ rest
drop_first [] rest b = refl
drop_first (c ∷ w) rest b =
    let more : suc (length w) + 1 ≡ suc (length w + 1) = omega arith in
    ap (λ (n : ℕ). drop n (c ∷ (w ++ b ∷ rest))) more ∙ drop_first w rest b

drop_all : (w : List ℕ) → drop (length w + 1) w ≡ []
drop_all [] = refl
drop_all (c ∷ w) =
    let more : suc (length w) + 1 ≡ suc (length w + 1) = omega arith in
    ap (λ (n : ℕ). drop n (c ∷ w)) more ∙ drop_all w

pub word_is : (w rest : List ℕ) → AllByRecursion IsGraph w → word (w ++ 32 ∷ rest) ≡ w
word_is w rest h = ap (λ (n : ℕ). take n (w ++ 32 ∷ rest)) (word_first w rest h) ∙ take_first w (32 ∷ rest)

pub after_is : (w rest : List ℕ) → AllByRecursion IsGraph w → after_word (w ++ 32 ∷ rest) ≡ rest
after_is w rest h = ap (λ (n : ℕ). drop (n + 1) (w ++ 32 ∷ rest)) (word_first w rest h) ∙ drop_first w rest 32

pub word_all : (w : List ℕ) → AllByRecursion IsGraph w → word w ≡ w
word_all w h = ap (λ (n : ℕ). take n w) (word_last w h) ∙ take_all (length w) w (omega arith)

pub after_all : (w : List ℕ) → AllByRecursion IsGraph w → after_word w ≡ []
after_all w h = ap (λ (n : ℕ). drop (n + 1) w) (word_last w h) ∙ drop_all w

-- the first line of a text
pub line_first : (line text : List ℕ) → AllByRecursion IsPrint line
    → slice_split is_newline (line ++ 10 ∷ text) ≡ line ∷ slice_split is_newline text
line_first [] text h = refl
line_first (b ∷ line) text h =
    let low = h.0.0 in
    let no : (b == 10) ≡ false = grind (arith, nat_tests) in
    slice_split-cons_no is_newline b (line ++ 10 ∷ text) no ∙ ap (onto_first b) (line_first line text h.1)

-- a printed line does not end with CR
at_end : (line : List ℕ) (i : ℕ) → AllByRecursion IsPrint line → (slice_index line i == 13) ≡ false
at_end [] i h = refl
at_end (b ∷ line) zero h = let low = h.0.0 in grind (arith, nat_tests)
at_end (b ∷ line) (suc i) h = at_end line i h.1

pub no_return : (line : List ℕ) → AllByRecursion IsPrint line → without_return line ≡ line
no_return line h =
    rw (and_right (nat_le 1 (length line)) (slice_index line (length line - 1) == 13) (at_end line (length line - 1) h)) refl
