use Rattle.std.specs.Prelude.{◌≡◌, ℕ, Result, Ok, Err, List, Vec, map}
use Rattle.std.specs.Borrow.{Bor}
use Rattle.std.specs.declared.alloc.Global.{Global}
use Rattle.std_alloc.specs.declared.rc.counts.Rc.{Rc}
use Rattle.rez_types.specs.declared.declaration.Declaration.{Declaration as HeldDeclaration}
use Rattle.rez_types.specs.declared.value.Value.{Value as HeldValue}
use Rattle.rez_tokens.specs.declared.token.Token.{Token as HeldToken}
use Rattle.rez_types.specs.Fields.{Declaration}
use Rattle.rez_types.specs.Values.{Value}
use Rattle.rez_types.specs.View.{declaration_of, values_of}
use Rattle.rez_tokens.specs.Tokens.{Token}
use Rattle.rez_tokens.specs.View.{token_of}
use Rattle.rez_declarations.specs.Declaring.{Stated}
use Rattle.rez_declarations.specs.Parses.{stated_of, type_number}
use Rattle.rez_statements.specs.declared.fault.StatementFault.{StatementFault}
use Rattle.rez_statements.specs.declared.fault.TypesFault.{TypesFault}
use Rattle.rez_statements.specs.declared.fault.TypesFault.TheVariants as fault
use Rattle.rez_statements.specs.declared.statement.DeclaringStatement.{DeclaringStatement}
use Rattle.rez_statements.specs.declared.table.DeclaredType.{DeclaredType}
use Rattle.rez_statements.specs.declared.table.Types.{Types}
use Rattle.rez_statements.specs.Types.{Declared, Fault}

-- The types of the code, and what its functions return.

-- A declaration that several types may have.
abbrev pub shared : Rc HeldDeclaration Global → Declaration
shared d = declaration_of d.value

abbrev pub declared_of : DeclaredType → Declared
declared_of t = record { kind = t.kind; declaration = shared t.declaration }

-- The types that are declared.
abbrev pub types_of : Types → List Declared
types_of t = map declared_of t.list.items

-- What a statement of the code says.
abbrev pub said_by : DeclaringStatement → ℕ × Stated
said_by s = (type_number s.ty, stated_of s.stated)

-- A declaration that is lent.
abbrev pub lent : Bor (Rc HeldDeclaration Global) → Declaration
lent b = shared b.now

-- The tokens, the values and the bytes of vectors.
abbrev pub tokens_in : Vec HeldToken Global → List Token
tokens_in v = map token_of v.items

abbrev pub values_in : Vec HeldValue Global → List Value
values_in v = values_of v.items

abbrev pub bytes_in : Vec ℕ Global → List ℕ
bytes_in v = v.items

-- A fault on a line.
abbrev pub wrong_at : ℕ → StatementFault → TypesFault
wrong_at line kind = fault.Wrong (record { line = line; kind = kind })

-- A function has returned what a definition gives, or has the fault that it gives; where the host is out of memory, nothing is said.
abbrev pub Gives : {A B : Type 0} → (A → B) → Result A TypesFault → Result B Fault → Type 0
Gives of (Ok x) given = given ≡ Ok (of x)
Gives of (Err (fault.Wrong e)) given = given ≡ Err (e.line, e.kind)
Gives of (Err fault.HostMemory) given = Unit {0}

-- The same of a function that leads to a value.
abbrev pub LeadsTo : {A B : Type 0} → Result A TypesFault → B → Result B Fault → Type 0
LeadsTo (Ok x) new given = given ≡ Ok new
LeadsTo (Err (fault.Wrong e)) new given = given ≡ Err (e.line, e.kind)
LeadsTo (Err fault.HostMemory) new given = Unit {0}
