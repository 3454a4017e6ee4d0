-- The first faulty line is the reader's.
use Rattle.lint.proofs.Cited.{◌≡◌, ℕ, ◌+◌, ◌≤◌, Bool, true, false, List, [], ◌∷◌, ◌++◌, Option, Some, None, Result, Ok, Err, refl, ap, ◌∙◌}
use Rattle.lint.proofs.Cited.{◌==◌, cond, map, length, arith, is_some, bytes_eq, codes, nat_lt, not, find, ◌&&◌, option_map, ok_or, lines}
use Rattle.lint.proofs.Cited.{FaultKind, CallWord, ◌>>=◌, after_blanks, Label, Value, Letters, arguments, meant, may_stand, word_spelled}
use Rattle.lint.proofs.Cited.{Above, Begun, Statement, Makes, is_new, with_statement, call_at, grow_at, begin_at, at_line, end_at}
use Rattle.lint.proofs.Cited.{with_token, with_text, read_at, read_from, longest_line, no_lines, sets_missing, first_missing, lesser}
use Rattle.lint.proofs.Cited.{unfinished, unless_unfinished, after_all, script_of, put_named, noted, missing_lines, begun_lines}
use Rattle.lint.proofs.Cited.{unfinished_at, faults_from, first, fault, FirstIsTheReaders, script_faults}
use Rattle.script_text.specs.declared.fault.FaultKind.TheVariants as kinds
use Rattle.script_text.specs.Call.{kinds as kinds_of}

-- the lines of statements are no more than n
abbrev UpTo : ℕ → List Statement → Type 0
UpTo n [] = Unit {0}
UpTo n (s ∷ steps) = (s.line ≤ n) × UpTo n steps

-- no statement outside stands below a grow-zone script that is begun
abbrev AboveBegun : Option Begun → List Statement → Type 0
AboveBegun None steps = Unit {0}
AboveBegun (Some b) steps = UpTo b.line steps

-- the lines so far are numbered up to n
record Numbered (n : ℕ) (above : Above) : Type 0 where
  pub steps : UpTo n above.steps
  pub begun : AboveBegun above.begun above.steps

-- what a reading leaves is numbered
abbrev Leaves : ℕ → Result Above FaultKind → Type 0
Leaves n (Ok next) = Numbered n next
Leaves n (Err e) = Unit {0}

-- a greater number
up_more : (n : ℕ) (steps : List Statement) → UpTo n steps → UpTo (n + 1) steps
up_more n [] up = tt
up_more n (s ∷ steps) up = (omega (arith, up.0), up_more n steps up.1)

-- one more statement
up_with : (n : ℕ) (s : Statement) (steps : List Statement) → s.line ≤ n → UpTo n steps → UpTo n (steps ++ s ∷ [])
up_with n s [] small up = (small, tt)
up_with n s (t ∷ steps) small up = (up.0, up_with n s steps small up.1)

-- nothing was stated
numbered_more : (n : ℕ) (above : Above) → Numbered n above → Numbered (n + 1) above
numbered_more n above numbered = record { steps = up_more n above.steps numbered.steps; begun = numbered.begun }

-- one of two
pick : (n : ℕ) (t : Bool) (a b : Result Above FaultKind) → Leaves n a → Leaves n b → Leaves n (cond t a b)
pick n true a b one other = one
pick n false a b one other = other

call_numbered : (n : ℕ) (above : Above) (begun : Option Begun) (w : CallWord) (values : List Value)
    → Numbered n (record { steps = above.steps; blocks = above.blocks; begun = begun })
    → Numbered (n + 1) (with_statement (record { line = n; said = Makes w values }) above begun)
call_numbered n above None w values numbered = record {
  steps = up_with (n + 1) _ above.steps (omega arith) (up_more n above.steps numbered.steps);
  begun = tt;
}
call_numbered n above (Some b) w values numbered = record {
  steps = up_more n above.steps numbered.steps;
  begun = numbered.begun;
}

-- the call that a word names, by the values of its arguments
abbrev call_of : CallWord → Result (List Value) FaultKind → Result (CallWord × List Value) FaultKind
call_of w r = r >>= λ values. Ok (meant w, values)

call_leaves : (n : ℕ) (above : Above) (w : CallWord) (rest : List ℕ) → Numbered n above
    → Leaves (n + 1) (call_at n above w rest)
call_leaves n above w rest numbered =
    pick (n + 1) (is_some above.begun && not (may_stand w)) _ _ tt (cases (arguments (kinds_of w) rest))
  where
    cases : (r : Result (List Value) FaultKind) → Leaves (n + 1) (call_of w r >>= λ call.
        Ok (with_statement (record { line = n; said = Makes call.0 call.1 }) above above.begun))
    cases (Ok values) = call_numbered n above above.begun (meant w) values numbered
    cases (Err e) = tt

begin_leaves : (n : ℕ) (above : Above) (values : List Value) → Numbered n above
    → Leaves (n + 1) (begin_at n above values)
begin_leaves n above (Letters name ∷ []) numbered =
    pick (n + 1) (is_new name above.blocks) _ _
    (record { steps = up_more n above.steps numbered.steps; begun = numbered.steps }) tt
begin_leaves n above _ numbered = tt

grow_leaves : (n : ℕ) (above : Above) (rest : List ℕ) → Numbered n above → Leaves (n + 1) (grow_at n above rest)
grow_leaves n above rest numbered = pick (n + 1) (is_some above.begun) _ _ tt (cases (arguments (Label ∷ []) rest))
  where
    cases : (r : Result (List Value) FaultKind) → Leaves (n + 1) (r >>= begin_at n above)
    cases (Ok values) = begin_leaves n above values numbered
    cases (Err e) = tt

end_leaves : (n : ℕ) (above : Above) (begun : Option Begun) (rest : List ℕ) → Numbered n above
    → Leaves (n + 1) (end_at above begun rest)
end_leaves n above None rest numbered = tt
end_leaves n above (Some b) rest numbered = cases (arguments [] rest)
  where
    cases : (r : Result (List Value) FaultKind) → Leaves (n + 1) (r >>= λ _. Ok (record {
      steps = above.steps;
      blocks = put_named b.name b.statements above.blocks;
      begun = None;
    }))
    cases (Ok values) = record { steps = up_more n above.steps numbered.steps; begun = tt }
    cases (Err e) = tt

token_leaves : (n : ℕ) (above : Above) (token rest : List ℕ) → Numbered n above
    → Leaves (n + 1) (with_token n above token rest)
unfolding with_token
token_leaves n above token rest numbered =
    pick (n + 1) (bytes_eq token (codes "grow")) _ _ (grow_leaves n above rest numbered)
    (pick (n + 1) (bytes_eq token (codes "end")) _ _ (end_leaves n above above.begun rest numbered)
    (cases (word_spelled token)))
  where
    cases : (found : Option CallWord)
        → Leaves (n + 1) (ok_or found kinds.UnknownCall >>= λ w. call_at n above w rest)
    cases None = tt
    cases (Some w) = call_leaves n above w rest numbered

text_leaves : (n : ℕ) (above : Above) (text : List ℕ) → Numbered n above → Leaves (n + 1) (with_text n above text)
text_leaves n above [] numbered = numbered_more n above numbered
text_leaves n above (c ∷ rest) numbered =
    pick (n + 1) (c == 35) _ _ (numbered_more n above numbered) (token_leaves n above _ _ numbered)

line_leaves : (n : ℕ) (above : Above) (line : List ℕ) → Numbered n above → Leaves (n + 1) (read_at n above line)
unfolding read_at
line_leaves n above line numbered =
    pick (n + 1) (nat_lt longest_line (length line)) _ _ tt (text_leaves n above (after_blanks line) numbered)

-- the first of the lines that are at fault because of what does not follow
first_unfinished : (above : Above) (steps : List Statement) (begun : Option Begun) → AboveBegun begun steps
    → first (map unfinished_at (missing_lines above steps) ++ map unfinished_at (begun_lines begun))
    ≡ option_map unfinished_at (lesser (first_missing above steps) (option_map (λ b. b.line) begun))
first_unfinished above [] None order = refl
first_unfinished above [] (Some b) order = refl
first_unfinished above (s ∷ steps) begun order =
    cases (λ begun order. first_unfinished above steps begun order) (sets_missing above s.said) begun order
  where
    Rest : Type 0
    Rest = (begun : Option Begun) → AboveBegun begun steps
        → first (map unfinished_at (missing_lines above steps) ++ map unfinished_at (begun_lines begun))
        ≡ option_map unfinished_at (lesser (first_missing above steps) (option_map (λ b. b.line) begun))

    found : Bool → Option Statement
    found t = cond t (Some s) (find (λ s. sets_missing above s.said) steps)

    cases : Rest → (t : Bool) (begun : Option Begun) → AboveBegun begun (s ∷ steps)
        → first (map unfinished_at (cond t (s.line ∷ missing_lines above steps) (missing_lines above steps))
        ++ map unfinished_at (begun_lines begun))
        ≡ option_map unfinished_at (lesser (option_map (λ s. s.line) (found t)) (option_map (λ b. b.line) begun))
    cases rest true None order = refl
    cases rest true (Some b) order = ap (λ n. Some (unfinished_at n)) (grind (arith, order.0))
    cases rest false None order = rest None tt
    cases rest false (Some b) order = rest (Some b) order.1

-- the fault of a text whose lines are read
unfinished_fault : (found : Option ℕ) (above : Above)
    → option_map unfinished_at found ≡ fault (unless_unfinished found above)
unfinished_fault None above = refl
unfinished_fault (Some n) above = refl

-- the first faulty line from the n-th on
first_from : (n : ℕ) (above : Above) (text : List (List ℕ)) → Numbered n above
    → first (faults_from n above text) ≡ fault (after_all (read_from n above text))
first_from n above [] numbered =
    first_unfinished above above.steps above.begun numbered.begun ∙ unfinished_fault (unfinished above) above
first_from n above (line ∷ more) numbered =
    cases (λ next numbered. first_from (n + 1) next more numbered) (read_at n above line)
    (line_leaves n above line numbered)
  where
    Rest : Type 0
    Rest = (next : Above) → Numbered (n + 1) next
        → first (faults_from (n + 1) next more) ≡ fault (after_all (read_from (n + 1) next more))

    cases : Rest → (read : Result Above FaultKind) → Leaves (n + 1) read
        → first (noted n above read (λ next. faults_from (n + 1) next more))
        ≡ fault (after_all (at_line n read (λ next. read_from (n + 1) next more)))
    cases rest (Ok next) leaves = rest next leaves
    cases rest (Err e) leaves = refl

pub first_is : FirstIsTheReaders
unfolding script_faults script_of
first_is text = first_from 1 no_lines (lines text) (record { steps = tt; begun = tt })
