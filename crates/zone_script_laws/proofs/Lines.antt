use Rattle.zone_script_laws.proofs.Cited.{◌≡◌, ℕ, ◌-◌, ◌<◌, zero, suc, Bool, true, false, ◌==◌, not, List, [], ◌∷◌, ◌++◌, refl, ◌∙◌, ap}
use Rattle.zone_script_laws.proofs.Cited.{cond, map, arith, length, take, slice_index, list_all, slice_split, onto_first, lines}
use Rattle.zone_script_laws.proofs.Cited.{lines_of_parts, strip_carriage_return, and_parts, cond-false, not-true, slice_split-cons_no}
use Rattle.zone_script_laws.proofs.Cited.{length-slice_split}
use Rattle.zone_script_laws.proofs.Letters.{is_plain}

-- The lines of a text that is written line by line.

-- a line ends here
abbrev pub ends : ℕ → Bool
ends b = b == 10

onto-first : (c : ℕ) (parts more : List (List ℕ)) → 0 < length parts → onto_first c (parts ++ more) ≡ onto_first c parts ++ more
onto-first c [] more some = absurd (omega arith)
onto-first c (part ∷ parts) more some = refl

some-part : (text : List ℕ) → 0 < length (slice_split ends text)
some-part text = omega (arith, length-slice_split ends text)

-- a text that is cut at an LF
split-at : (text more : List ℕ) → slice_split ends (text ++ 10 ∷ more) ≡ slice_split ends text ++ slice_split ends more
split-at [] more = refl
split-at (c ∷ text) more = cases (ends c) (split-at text more)
  where
    cases : (t : Bool) → slice_split ends (text ++ 10 ∷ more) ≡ slice_split ends text ++ slice_split ends more
        → cond t ([] ∷ slice_split ends (text ++ 10 ∷ more)) (onto_first c (slice_split ends (text ++ 10 ∷ more)))
        ≡ cond t ([] ∷ slice_split ends text) (onto_first c (slice_split ends text)) ++ slice_split ends more
    cases true e = ap (λ parts. [] ∷ parts) e
    cases false e = ap (onto_first c) e ∙ onto-first c (slice_split ends text) (slice_split ends more) (some-part text)

-- the lines in parts of which some follow
parts-before : (parts more : List (List ℕ)) → 0 < length more
    → lines_of_parts (parts ++ more) ≡ map strip_carriage_return parts ++ lines_of_parts more
parts-before [] more some = refl
parts-before (part ∷ parts) more some =
    one (parts ++ more) (more-parts parts) ∙ ap (λ ls. strip_carriage_return part ∷ ls) (parts-before parts more some)
  where
    one : (rest : List (List ℕ)) → 0 < length rest → lines_of_parts (part ∷ rest) ≡ strip_carriage_return part ∷ lines_of_parts rest
    one [] none = absurd (omega arith)
    one (next ∷ rest) some = refl

    more-parts : (before : List (List ℕ)) → 0 < length (before ++ more)
    more-parts [] = some
    more-parts (first ∷ before) = omega arith

-- the lines of a text that ends with an LF, before those of what follows
pub lines-before : (text more : List ℕ)
    → lines (text ++ 10 ∷ more) ≡ map strip_carriage_return (slice_split ends text) ++ lines more
lines-before text more =
    ap lines_of_parts (split-at text more) ∙ parts-before (slice_split ends text) (slice_split ends more) (some-part more)

-- a line of plain bytes
one-part : (line : List ℕ) → list_all is_plain line ≡ true → slice_split ends line ≡ line ∷ []
one-part [] plain = refl
one-part (c ∷ line) plain =
    let parts = and_parts (is_plain c) (list_all is_plain line) plain in
    let both = and_parts (not (c == 10)) (not (c == 13)) parts.0 in
    slice_split-cons_no ends c line (not-true (c == 10) both.0) ∙ ap (onto_first c) (one-part line parts.1)

no-return : (line : List ℕ) (i : ℕ) → list_all is_plain line ≡ true → (slice_index line i == 13) ≡ false
no-return [] i plain = refl
no-return (c ∷ line) zero plain =
    let parts = and_parts (is_plain c) (list_all is_plain line) plain in
    not-true (c == 13) (and_parts (not (c == 10)) (not (c == 13)) parts.0).1
no-return (c ∷ line) (suc i) plain = no-return line i (and_parts (is_plain c) (list_all is_plain line) plain).1

pub line-first : (line more : List ℕ) → list_all is_plain line ≡ true → lines (line ++ 10 ∷ more) ≡ line ∷ lines more
line-first line more plain =
    lines-before line more
    ∙ ap (λ parts. map strip_carriage_return parts ++ lines more) (one-part line plain)
    ∙ ap (λ l. l ∷ lines more) (cond-false (slice_index line (length line - 1) == 13) (take (length line - 1) line) line
    (no-return line (length line - 1) plain))
