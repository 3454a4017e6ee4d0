use Rattle.std.specs.Prelude.{◌≡◌, ℕ, Option, None, Result, Ok, Err, List, Vec, map, option_map}
use Rattle.byteorder.specs.Endian.{big_number}
use Rattle.std.specs.declared.alloc.Global.{Global}
use Rattle.rez_declarations.specs.declared.type_fault.TypeFault.{TypeFault}
use Rattle.rez_declarations.specs.declared.type_fault.ReadFault.{ReadFault}
use Rattle.rez_declarations.specs.declared.type_fault.ReadFault.TheVariants as fault
use Rattle.rez_declarations.specs.declared.type_fault.FaultKind.TheVariants as faults
use Rattle.rez_declarations.specs.declared.drafting.DraftFault.{DraftFault}
use Rattle.rez_declarations.specs.declared.drafting.DraftFault.TheVariants as draft
use Rattle.rez_types.specs.declared.declaration.NamedNumber.{NamedNumber as HeldNumber}
use Rattle.rez_types.specs.declared.declaration.NamedText.{NamedText as HeldText}
use Rattle.rez_types.specs.declared.declaration.Field.{Field as HeldField}
use Rattle.rez_declarations.specs.declared.parser.Parser.{Parser}
use Rattle.rez_declarations.specs.declared.nesting.SwitchDraft.{SwitchDraft}
use Rattle.rez_declarations.specs.declared.statement.TypeStated.{TypeStated}
use Rattle.rez_declarations.specs.declared.statement.TypeStated.TheVariants as stated
use Rattle.rez_declarations.specs.declared.statement.TypeStatement.{TypeStatement}
use Rattle.rez_types.specs.Fields.{NamedNumber, NamedText, Field}
use Rattle.rez_tokens.specs.Tokens.{Token}
pub use Rattle.rez_tokens.specs.View.{lexeme_of, token_of}
use Rattle.rez_types.specs.View.{number_of, text_of, fields_of, blocks_of, place_of, case_of, declaration_of}
use Rattle.rez_declarations.specs.Sound.{fault_of}
use Rattle.rez_declarations.specs.Parsing.{Parsing, line_at}
use Rattle.rez_declarations.specs.Declaring.{Cases, Stated, Declared, As}

-- The parser of the code, and what its functions lead to.

abbrev pub parsing_of : Parser → Parsing
parsing_of p = record {
  tokens = map token_of p.tokens.now;
  line = p.line;
  blocks = blocks_of p.blocks.items;
  fields = p.fields;
}

-- A function has led to what a definition gives, or to the fault that it gives; where the host is out of memory, nothing is said.
abbrev pub Parses : {A B : Type 0} → Result A ReadFault → B → Result B TypeFault → Type 0
Parses (Ok x) new given = given ≡ Ok new
Parses (Err fault.HostMemory) new given = Unit {0}
Parses (Err (fault.Text e)) new given = given ≡ Err e

-- The same of a function that also returns what the definition gives.
abbrev pub ParsesTo : {A B C : Type 0} → (A → C) → Result A ReadFault → B → Result (C × B) TypeFault → Type 0
ParsesTo of (Ok x) new given = given ≡ Ok (of x, new)
ParsesTo of (Err fault.HostMemory) new given = Unit {0}
ParsesTo of (Err (fault.Text e)) new given = given ≡ Err e

-- The same of a function that changes a draft beside.
abbrev pub Reads : {A B C : Type 0} → Result A ReadFault → C → B → Result (C × B) TypeFault → Type 0
Reads (Ok x) drafted new given = given ≡ Ok (drafted, new)
Reads (Err fault.HostMemory) drafted new given = Unit {0}
Reads (Err (fault.Text e)) drafted new given = given ≡ Err e

-- The fault of a field that can't stand here.
abbrev pub RefusesDraft : ReadFault → DraftFault → Parsing → Type 0
RefusesDraft result draft.HostMemory s = result ≡ fault.HostMemory
RefusesDraft result (draft.Unsound kind) s =
    result ≡ fault.Text (record { line = line_at s.tokens s.line; kind = faults.Unsound kind })

-- The items of vectors.
abbrev pub numbers_in : Vec HeldNumber Global → List NamedNumber
numbers_in v = map number_of v.items

abbrev pub texts_in : Vec HeldText Global → List NamedText
texts_in v = map text_of v.items

abbrev pub fields_held : Vec HeldField Global → List Field
fields_held v = fields_of v.items

-- The cases of the code.
abbrev pub cases_of : SwitchDraft → Cases
cases_of d = record { place = option_map place_of d.place; list = map case_of d.cases.items }

-- A length, as it is.
abbrev pub same_size : Option ℕ → Option ℕ
same_size size = size

-- What a statement of the code says.
abbrev pub stated_of : TypeStated → Stated
stated_of (stated.Declared d) = Declared (declaration_of d)
stated_of (stated.As ty) = As (big_number 4 ty)

-- A declaration that was read is sound.
abbrev pub IsSound : TypeStated → Type 0
IsSound (stated.Declared d) = fault_of (declaration_of d) ≡ None
IsSound (stated.As ty) = Unit {0}

-- The number of a type.
abbrev pub type_number : List ℕ → ℕ
type_number ty = big_number 4 ty

-- A statement was read.
abbrev pub IsStatement : Result TypeStatement ReadFault → Result (ℕ × Stated × List Token) TypeFault → Type 0
IsStatement (Ok s) given = given ≡ Ok (type_number s.ty, stated_of s.stated, map token_of s.rest.now)
IsStatement (Err fault.HostMemory) given = Unit {0}
IsStatement (Err (fault.Text e)) given = given ≡ Err e
