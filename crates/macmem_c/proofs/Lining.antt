-- Texts of faulty lines, a line for each.
use Rattle.macmem_c.proofs.Cited.{◌≡◌, ◌∷◌, ◌++◌, ◌∙◌, ◌<◌, ◌≤◌, ◌+◌, ℕ, List, [], refl, sym, ap, subst, append_assoc, append-nil, map}
use Rattle.macmem_c.proofs.Cited.{length, drop, get_or, arith, common_steps, FaultKind, script_faults, seen, faulty_line, AreLines}
use Rattle.macmem_c.proofs.Cited.{AreFaulty}
use Rattle.lint.specs.declared.wrong.Fault.{Fault}

-- The text so far, with any lines of the faulty lines that are left, is the lines of all.
abbrev pub GoesOn : List ℕ → List ℕ → List ℕ → Type 0
GoesOn all left text = (rest : List ℕ) → AreLines left rest → AreLines all (text ++ rest)

one_line : (all more text new words : List ℕ) (n : ℕ) → GoesOn all (n ∷ more) text → new ≡ text ++ faulty_line n words
    → GoesOn all more new
one_line all more text new words n so_far is rest h =
    subst (AreLines all) (sym (ap (λ t. t ++ rest) is ∙ append_assoc text (faulty_line n words) rest))
    (so_far (faulty_line n words ++ rest) (words, rest, refl, h))

-- the numbers of the lines of faults
abbrev pub lines_of : List Fault → List ℕ
lines_of faults = map (λ (f : Fault). f.line) faults

-- the line of one fault more, and the lines of all
pub next_line : (faults : List Fault) (i : ℕ) (d : Fault) (text new words : List ℕ) → i < length faults
    → GoesOn (lines_of faults) (lines_of (drop i faults)) text → new ≡ text ++ faulty_line (get_or faults i d).line words
    → GoesOn (lines_of faults) (lines_of (drop (i + 1) faults)) new
next_line faults i d text new words inside so_far is =
    let split : lines_of (drop i faults) ≡ (get_or faults i d).line ∷ lines_of (drop (i + 1) faults)
    = grind (arith, common_steps) in
    one_line (lines_of faults) (lines_of (drop (i + 1) faults)) text new words (get_or faults i d).line
    (subst (λ l. GoesOn (lines_of faults) l text) split so_far) is

pub every_line : (faults : List Fault) (i : ℕ) (text : List ℕ) → length faults ≤ i
    → GoesOn (lines_of faults) (lines_of (drop i faults)) text → AreLines (lines_of faults) text
every_line faults i text past so_far =
    let none : lines_of (drop i faults) ≡ [] = grind (arith, common_steps) in
    subst (AreLines (lines_of faults)) (append-nil text) (subst (λ l. GoesOn (lines_of faults) l text) none so_far [] refl)

-- the numbers of the faults that were found
numbers : (faults : List Fault) → map (λ (f : ℕ × FaultKind). f.0) (map seen faults) ≡ lines_of faults
numbers [] = refl
numbers (f ∷ faults) = ap (λ l. f.line ∷ l) (numbers faults)

-- the lines of the faults that were found are those of the faulty lines
pub found_lines : (text out : List ℕ) (faults slice : List Fault) → map seen faults ≡ script_faults text → slice ≡ faults
    → AreLines (lines_of slice) out → AreFaulty text out
found_lines text out faults slice is same h = subst (λ l. AreLines l out)
    (ap lines_of same ∙ sym (numbers faults) ∙ ap (map (λ (f : ℕ × FaultKind). f.0)) is) h

-- one line alone
pub one_alone : (words old out : List ℕ) (n : ℕ) → old ≡ [] → out ≡ old ++ faulty_line n words → AreLines (n ∷ []) out
one_alone words old out n none is =
    (words, [], is ∙ ap (λ t. t ++ faulty_line n words) none ∙ sym (append-nil (faulty_line n words)), refl)

-- a source that can be read has no line, another has one
pub as_lines : (lines wanted out : List ℕ) → wanted ≡ lines → AreLines lines out → AreLines wanted out
as_lines lines wanted out is h = subst (λ l. AreLines l out) (sym is) h
