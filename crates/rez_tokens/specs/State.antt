use Rattle.std.specs.Prelude.{◌≡◌, ℕ, Result, Ok, Err, List, [], ◌∷◌, ◌++◌, map}
use Rattle.rez_tokens.specs.declared.fault.TokenFault.{TokenFault}
use Rattle.rez_tokens.specs.declared.fault.StepFault.{StepFault}
use Rattle.rez_tokens.specs.declared.fault.StepFault.TheVariants.{Memory, Wrong}
use Rattle.rez_tokens.specs.declared.mode.Mode.{Mode}
use Rattle.rez_tokens.specs.declared.mode.Mode.TheVariants as mode
use Rattle.rez_tokens.specs.declared.lexer.Lexer.{Lexer}
use Rattle.rez_tokens.specs.Tokens.{Token, Lexeme}
use Rattle.rez_tokens.specs.View.{token_of}

-- How far a text is read: where it stands within a token, the bytes of the token so far, the line on which the token begins, and
-- the tokens before it.
pub record State : Type 0 where
  pub mode : Mode
  pub gathered : List ℕ
  pub begun : ℕ
  pub tokens : List Token

-- Before the first byte.
abbrev pub start : State
start = record { mode = mode.Between; gathered = []; begun = 1; tokens = [] }

-- The text stands elsewhere within a token.
abbrev pub in_mode : Mode → State → State
in_mode m s = record s { mode = m }

-- One more byte of a token.
abbrev pub gather : ℕ → Mode → State → State
gather b m s = record s { mode = m; gathered = s.gathered ++ b ∷ [] }

-- What was read is no token.
abbrev pub passed : State → State
passed s = record s { mode = mode.Between; gathered = [] }

-- One more token.
abbrev pub with_token : Lexeme → State → State
with_token l s = record s {
  mode = mode.Between;
  gathered = [];
  tokens = s.tokens ++ record { line = s.begun; lexeme = l } ∷ [];
}

-- The lexer of the code, as a state.
abbrev pub state_of : Lexer → State
state_of l = record {
  mode = l.mode;
  gathered = l.gathered.items;
  begun = l.begun;
  tokens = map token_of l.tokens.items;
}

-- A function has led to the state that a definition gives, or has the fault that it gives; where the host is out of memory,
-- nothing is said about the text.
abbrev pub Leads : {A : Type 0} → Result A StepFault → State → Result State TokenFault → Type 0
Leads (Ok x) new given = given ≡ Ok new
Leads (Err Memory) new given = Unit {0}
Leads (Err (Wrong kind)) new given = given ≡ Err kind
