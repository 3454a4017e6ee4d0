use Rattle.std.specs.Prelude.{◌≡◌, ℕ, ◌+◌, ◌==◌, ◌&&◌, ◌||◌, not, Option, Some, None, Result, Ok, Err, List, [], ◌∷◌, Vec, map}
use Rattle.std.specs.Prelude.{if◌then◌else◌}
use Rattle.std.specs.declared.alloc.Global.{Global}
use Rattle.rez_tokens.specs.declared.fault.TokenFault.{TokenFault}
use Rattle.rez_tokens.specs.declared.fault.TokenFault.TheVariants as faults
use Rattle.rez_tokens.specs.declared.fault.TokenFaultAt.{TokenFaultAt}
use Rattle.rez_tokens.specs.declared.fault.StepFault.{StepFault}
use Rattle.rez_tokens.specs.declared.fault.StepFault.TheVariants as step_faults
use Rattle.rez_tokens.specs.declared.fault.TextFault.{TextFault}
use Rattle.rez_tokens.specs.declared.fault.TextFault.TheVariants as fault
use Rattle.rez_tokens.specs.declared.mode.Mode.{Mode}
use Rattle.rez_tokens.specs.declared.mode.Mode.TheVariants as mode
use Rattle.rez_tokens.specs.declared.token.Token.{Token as HeldToken}
use Rattle.rez_tokens.specs.Tokens.{Token}
use Rattle.rez_tokens.specs.View.{token_of}
use Rattle.rez_tokens.specs.State.{State, start}
use Rattle.rez_tokens.specs.Lexing.{step}

-- The tokens of a whole text.

-- The number of the line on which a byte stands, from that of the byte before it: CR, LF, and CR with LF, each end a line.
abbrev pub line_of : ℕ → ℕ → ℕ → ℕ
line_of line before b = if before == 10 || (before == 13 && not (b == 10)) then line + 1 else line

-- Between tokens, each byte may be the first of one.
abbrev pub begun_in : Mode → ℕ → State → State
begun_in mode.Between line s = record s { begun = line }
begun_in m line s = s

-- One more byte, which stands on a line.
unfoldable pub step_on : ℕ → ℕ → State → Result State TokenFault
step_on line b s = step b (begun_in s.mode line s)

-- The tokens of a text that ends so; of a string or a comment that does not end, the line on which it begins.
abbrev pub ended : Mode → State → Result (List Token) (ℕ × TokenFault)
ended mode.Between s = Ok s.tokens
ended mode.Comment s = Err (s.begun, faults.OpenComment)
ended mode.Star s = Err (s.begun, faults.OpenComment)
ended m s = Err (s.begun, faults.OpenString)

-- A fault on a line.
abbrev pub at_line : {A B : Type 0} → ℕ → Result A TokenFault → (A → Result B (ℕ × TokenFault)) → Result B (ℕ × TokenFault)
at_line line (Ok x) go_on = go_on x
at_line line (Err kind) go_on = Err (line, kind)

-- The tokens at the end of a text, which ends its last line.
unfoldable pub finished : ℕ → State → Result (List Token) (ℕ × TokenFault)
finished line s = at_line line (step 10 s) (λ t. ended t.mode t)

-- The tokens of a text from here on, after a byte that stands on a line.
abbrev pub lexed_from : ℕ → ℕ → State → List ℕ → Result (List Token) (ℕ × TokenFault)
lexed_from line before s [] = finished line s
lexed_from line before s (b ∷ rest) =
    at_line (line_of line before b) (step_on (line_of line before b) b s) (λ t. lexed_from (line_of line before b) b t rest)

-- The tokens of a text, each with the number of the line on which it begins, from 1 on, or the number of the line where the text can't
-- go on, and what is wrong there.
unfoldable pub lexed : List ℕ → Result (List Token) (ℕ × TokenFault)
lexed text = lexed_from 1 0 start text

-- What a function found to be wrong at the end of a text, if anything is.
abbrev pub Ends : Option TokenFaultAt → State → Type 0
Ends None s = ended s.mode s ≡ Ok s.tokens
Ends (Some f) s = ended s.mode s ≡ Err (f.line, f.kind)

-- A fault with the number of its line.
abbrev pub fault_at : ℕ → StepFault → TextFault
fault_at line (step_faults.Wrong kind) = fault.Wrong (record { line = line; kind = kind })
fault_at line step_faults.Memory = fault.HostMemory

-- A function has returned the tokens that a definition gives, or has the fault that it gives; where the host is out of memory, nothing
-- is said about the text.
abbrev pub Lexes : Result (Vec HeldToken Global) TextFault → Result (List Token) (ℕ × TokenFault) → Type 0
Lexes (Ok v) given = given ≡ Ok (map token_of v.items)
Lexes (Err (fault.Wrong f)) given = given ≡ Err (f.line, f.kind)
Lexes (Err fault.HostMemory) given = Unit {0}
