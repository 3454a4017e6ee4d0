-- Steps of the functions that judge lines.
use Rattle.lint.proofs.Cited.{◌≡◌, ℕ, ◌+◌, true, false, List, [], ◌∷◌, ◌++◌, Option, Some, None, Result, Ok, Err, refl, sym, ap, subst}
use Rattle.lint.proofs.Cited.{is_some, length, arith, ◌==◌, eqb-true, append_assoc, ok_or, option_map, lines, FaultKind, BadArgument, ◌>>=◌}
use Rattle.lint.proofs.Cited.{Fails, OnFault, Above, Begun, read_at, begun_lines, faults_from, unfinished_lines, Kind, Value, argument}
use Rattle.lint.proofs.Cited.{value, after_blanks, token_at, kind_of, rest_after, Halts, OnWrong, Says, Halt, Wrong}
use Rattle.lint.specs.declared.halt.Halt.TheVariants as halt
use Rattle.lint.specs.declared.wrong.Wrong.TheVariants as wrong

-- what is wrong is never that the host is out of memory
wrong_fails : {Y : Type 0} (w : Wrong) (read : Result Y FaultKind) → Fails (kind_of w) read → read ≡ Err (kind_of w)
wrong_fails wrong.NoMemory read fails = fails
wrong_fails _ read fails = fails

wrong_faults : (X : Type 0) (holds : Type 0) (w : Wrong) → OnFault {X = X} (Err (kind_of w)) holds → holds
wrong_faults X holds wrong.NoMemory kept = kept
wrong_faults X holds _ kept = kept

-- a line is halted by the fault of which something is said
pub said_so : {Y : Type 0} (kind : FaultKind) (h : Halt) (read : Result Y FaultKind) → Says kind h → Fails kind read
    → Halts h read
said_so kind halt.HostMemory read says fails = tt
said_so kind (halt.Wrong found) read says fails =
    wrong_fails found.wrong read (subst (λ k. Fails k read) (sym says) fails)

-- so it is where more is read after it
pub said_on : {Y Z : Type 0} (kind : FaultKind) (h : Halt) (read : Result Y FaultKind) (go_on : Y → Result Z FaultKind)
    → Says kind h → Fails kind read → Halts h (read >>= go_on)
said_on kind halt.HostMemory read go_on says fails = tt
said_on kind (halt.Wrong found) read go_on says fails =
    ap (λ r. r >>= go_on) (said_so kind (halt.Wrong found) read says fails)

-- what is found is there, whatever it is seen as
pub found_some : {X Y : Type 0} (seen : X → Y) (found : Option X) (sought : Option Y) → option_map seen found ≡ sought
    → is_some found ≡ is_some sought
found_some seen None sought same = ap is_some same
found_some seen (Some x) sought same = ap is_some same

-- an argument whose token is read
some_rest : (found : Option Value) (rest : List ℕ) → is_some found ≡ true
    → Some rest ≡ rest_after (ok_or found BadArgument >>= λ v. Ok (v, rest))
some_rest None rest there = absurd (cc)
some_rest (Some v) rest there = refl

pub argument_there : (k : Kind) (text token rest : List ℕ) → token_at (after_blanks text) ≡ Ok (token, rest)
    → is_some (value k token) ≡ true → Some rest ≡ rest_after (argument k text)
unfolding argument
argument_there k text token rest cut there = rw cut (some_rest (value k token) rest there)

-- an argument whose token is none
none_rest : (found : Option Value) (rest : List ℕ) → is_some found ≡ false
    → None ≡ rest_after (ok_or found BadArgument >>= λ v. Ok (v, rest))
none_rest None rest there = refl
none_rest (Some v) rest there = absurd (cc)

pub argument_not : (k : Kind) (text token rest : List ℕ) → token_at (after_blanks text) ≡ Ok (token, rest)
    → is_some (value k token) ≡ false → None ≡ rest_after (argument k text)
unfolding argument
argument_not k text token rest cut there = rw cut (none_rest (value k token) rest there)

-- what a fault leaves is left where something is wrong
pub left_so : (X Y : Type 0) (holds : Type 0) (kind : FaultKind) (h : Halt) → Says kind h
    → OnFault {X = X} (Err kind) holds → OnWrong {X = Y} (Err h) holds
left_so X Y holds kind halt.HostMemory says kept = tt
left_so X Y holds kind (halt.Wrong found) says kept =
    wrong_faults X holds found.wrong (subst (λ k. OnFault {X = X} (Err k) holds) (sym says) kept)

-- no lines
pub at_end : (n : ℕ) (above : Above) (rest : List ℕ) → (length rest == 0) ≡ true
    → faults_from n above (lines rest) ≡ unfinished_lines above
at_end n above [] empty = refl
at_end n above (b ∷ rest) empty = let no : ⊥ = omega (arith, eqb-true (length (b ∷ rest)) 0 empty) in absurd no
