use Rattle.std.specs.Prelude.{ℕ, ◌==◌, Bool, true, false, filter, Option, Some, None, is_some, Result, Ok, Err, List, [], ◌∷◌, ◌++◌}
use Rattle.std.specs.Prelude.{if◌then◌else◌}
use Rattle.rez_types.specs.Fields.{Declaration}
use Rattle.rez_types.specs.Values.{Value}
use Rattle.rez_types.specs.Encoding.{datum_of_values}
use Rattle.rez_tokens.specs.declared.fault.TokenFault.{TokenFault}
use Rattle.rez_tokens.specs.Tokens.{Token, Lexeme, Filled}
use Rattle.rez_tokens.specs.Reading.{lexed}
use Rattle.rez_declarations.specs.declared.type_fault.TypeFault.{TypeFault}
use Rattle.rez_declarations.specs.declared.type_fault.FaultKind.TheVariants as declaring
use Rattle.rez_declarations.specs.Declaring.{Stated, statement}
use Rattle.rez_declarations.specs.Declaring as stated
use Rattle.rez_values.specs.declared.fault.ValueFault.{ValueFault}
use Rattle.rez_values.specs.Taken.{taken}
use Rattle.rez_statements.specs.declared.fault.StatementFault.{StatementFault}
use Rattle.rez_statements.specs.declared.fault.StatementFault.TheVariants as faults

-- Types that are declared, and the bytes of resources that are stated by them: Macintosh Programmer's Workshop: Building and Managing
-- Programs in MPW, chapter Rez.

-- A type is the number of its four bytes, the highest first.
pub record Declared : Type 0 where
  pub kind : ℕ
  pub declaration : Declaration

-- What is wrong, and the number of its line in the text of the statement, from 1 on.
abbrev pub Fault : Type 0
Fault = ℕ × StatementFault

infixl 10 ◌>>=◌
-- One step after another; a fault of the first stays.
abbrev pub ◌>>=◌ : {A B : Type 0} → Result A Fault → (A → Result B Fault) → Result B Fault
(Ok x) >>= f = f x
(Err e) >>= f = Err e

-- The declaration of a type that is in force: the last one.
abbrev pub in_force : ℕ → List Declared → Option Declaration
in_force kind [] = None
in_force kind (t ∷ types) =
    elim (in_force kind types) [
      | None ↦ if t.kind == kind then Some t.declaration else None
      | Some d ↦ Some d
    ]

-- A type is declared.
abbrev pub is_declared : ℕ → List Declared → Bool
is_declared kind types = is_some (in_force kind types)

-- The tokens of a text.
abbrev pub of_text : Result (List Token) (ℕ × TokenFault) → Result (List Token) Fault
of_text (Ok tokens) = Ok tokens
of_text (Err e) = Err (e.0, faults.Token e.1)

-- The bytes of a fill that a comment states say nothing in a declaration.
abbrev pub says_something : Lexeme → Bool
says_something (Filled bytes) = false
says_something l = true

abbrev pub is_said : Token → Bool
is_said t = says_something t.lexeme

-- No token stands after a statement.
abbrev pub alone : {A : Type 0} → List Token → A → Result A Fault
alone [] x = Ok x
alone (t ∷ rest) x = Err (t.line, faults.Declaration declaring.DeclarationNeeded)

-- A statement `type` that is read: the type, what is said of it, and the tokens after it.
abbrev pub of_statement : Result (ℕ × Stated × List Token) TypeFault → Result (ℕ × Stated) Fault
of_statement (Ok s) = alone s.2 (s.0, s.1)
of_statement (Err e) = Err (e.line, faults.Declaration e.kind)

-- What the text of a statement `type` says, from its word `type` to its semicolon: the type, and what is said of it.
unfoldable pub declares : List ℕ → Result (ℕ × Stated) Fault
declares text = of_text (lexed text) >>= λ tokens. of_statement (statement (filter is_said tokens))

-- The declaration of a type, which has to be declared.
abbrev pub needed : ℕ → Option Declaration → Result Declaration Fault
needed kind None = Err (1, faults.Undeclared (record { number = kind }))
needed kind (Some d) = Ok d

-- The declaration that a statement gives: its own, or that of another type which is in force.
abbrev pub given_by : Stated → List Declared → Result Declaration Fault
given_by (stated.Declared d) types = Ok d
given_by (stated.As other) types = needed other (in_force other types)

-- The types after the text of a statement `type`.
unfoldable pub with_type : List ℕ → List Declared → Result (List Declared) Fault
with_type text types =
    declares text
    >>= λ (kind, said). given_by said types >>= λ d. Ok (types ++ record { kind = kind; declaration = d } ∷ [])

-- The values of tokens.
abbrev pub of_values : Result (List Value) (ℕ × ValueFault) → Result (List Value) Fault
of_values (Ok values) = Ok values
of_values (Err e) = Err (e.0, faults.Value e.1)

-- The bytes of values.
abbrev pub of_bytes : Option (List ℕ) → Result (List ℕ) Fault
of_bytes None = Err (1, faults.NotEncoded)
of_bytes (Some bytes) = Ok bytes

-- The bytes of a resource that the text between the braces of a statement `resource` states, by a declaration.
unfoldable pub datum_by : Declaration → List ℕ → Result (List ℕ) Fault
datum_by d text =
    of_text (lexed text)
    >>= λ tokens. of_values (taken d tokens) >>= λ values. of_bytes (datum_of_values d values)

-- The same by the declaration of a type that is in force.
unfoldable pub datum_stated : ℕ → List ℕ → List Declared → Result (List ℕ) Fault
datum_stated kind text types = needed kind (in_force kind types) >>= λ d. datum_by d text
