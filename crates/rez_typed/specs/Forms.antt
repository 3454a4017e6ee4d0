use Rattle.std.specs.Prelude.{ℕ, zero, suc, ◌-◌, ◌==◌, Bool, true, false, ◌&&◌, nat_lt, nat_le, bytes_eq, bit_and, drop, slice_get, length}
use Rattle.std.specs.Prelude.{◌++◌}
use Rattle.std.specs.List.{flat_map}
use Rattle.std.specs.Prelude.{Option, Some, None, Result, Ok, Err, List, [], ◌∷◌, if◌then◌else◌}
use Rattle.fork_format.specs.Content.{Ref}
use Rattle.rez_types.specs.Fields.{Declaration}
use Rattle.rez_types.specs.Values as value
use Rattle.rez_types.specs.Values.{Value}
use Rattle.rez_types.specs.Options.{◌>>=◌, given}
use Rattle.rez_types.specs.Decoding.{values_of_datum}
use Rattle.rez_declarations.specs.Declaring.{Stated}
use Rattle.rez_declarations.specs.Declaring as stated
use Rattle.rez_statements.specs.Types.{Declared, Fault, declares, datum_by}
use Rattle.rez_printing.specs.Showing.{shown}
use Rattle.rez_printing.specs.declared.style.Style.{Style}
use Rattle.rez_printing.specs.TypeText.{declared_text, tailed_text}
use Rattle.rez_text.specs.Scopes.{keeps, ends_last, inside, outside}
use Rattle.rez_typed.specs.declared.form.Tail.{Tail}
use Rattle.rez_typed.specs.declared.form.Tail.TheVariants as tails

-- Forms of a type, and resources by them. What is printed is read again before it is taken: a declaration, and the bytes of a
-- resource. So no text depends on a law of printing.

-- A form of a type: the text of a statement that declares it, the declaration as which this text is read, and whether a string of
-- the bytes after the fields of a declaration is its last field.
pub record Form : Type 0 where
  pub text : List ℕ
  pub declaration : Declaration
  pub tail : Tail

-- The declaration of a type by fields of its own.
abbrev pub own : ℕ → ℕ × Stated → Option Declaration
own kind (other, stated.Declared d) = given (other == kind) d
own kind (other, stated.As name) = None

abbrev pub own_of : ℕ → Result (ℕ × Stated) Fault → Option Declaration
own_of kind (Ok x) = own kind x
own_of kind (Err e) = None

-- After the word `type` a text goes on to its last byte, the semicolon.
abbrev pub is_statement : List ℕ → Bool
is_statement text = ends_last 59 0 outside (drop 5 text)

-- The form of a declaration, if its text is one statement that declares the type.
abbrev pub form_declared : Tail → List ℕ → Option Declaration → Option Form
form_declared tail text None = None
form_declared tail text (Some d) = Some (record { text = text; declaration = d; tail = tail })

abbrev pub form_by : Tail → ℕ → List ℕ → Option Form
form_by tail kind text = if is_statement text then form_declared tail text (own_of kind (declares text)) else None

abbrev pub text_with : Tail → ℕ → Declaration → List ℕ
text_with tails.None kind d = declared_text kind d
text_with tails.Short kind d = tailed_text kind d

unfoldable pub form_of : Tail → ℕ → Declaration → Option Form
form_of tail kind d = form_by tail kind (text_with tail kind d)

-- The forms of a type: those of its declarations with a string at the end, and then those of the declarations as they are, both in
-- the order of the declarations.
abbrev pub one_of : Option Form → List Form
one_of None = []
one_of (Some f) = f ∷ []

abbrev pub forms_with : Tail → ℕ → Declared → List Form
forms_with tail kind t = if t.kind == kind then one_of (form_of tail kind t.declaration) else []

abbrev pub forms_of : ℕ → List Declared → List Form
forms_of kind types = flat_map (forms_with tails.Short kind) types ++ flat_map (forms_with tails.None kind) types

-- A text states the bytes by a declaration, and is whole between its braces.
abbrev pub are_bytes : List ℕ → Result (List ℕ) Fault → Bool
are_bytes datum (Ok bytes) = bytes_eq bytes datum
are_bytes datum (Err e) = false

abbrev pub states : Declaration → List ℕ → List ℕ → Bool
states d datum text = keeps 125 1 inside text && are_bytes datum (datum_by d text)

abbrev pub stating : Declaration → List ℕ → List ℕ → Option (List ℕ)
stating d datum text = given (states d datum text) text

-- A string of 1 to 16 bytes.
abbrev pub is_short : Option Value → Bool
is_short (Some (value.Text bytes)) = nat_lt 0 (length bytes) && nat_le (length bytes) 16
is_short v = false

-- Values are those of a form: a string of the bytes after the fields of a declaration is short, and there are such bytes.
abbrev pub fits : Tail → List Value → Bool
fits tails.None values = true
fits tails.Short values = is_short (slice_get values (length values - 1))

-- The values of a resource's bytes by a form.
abbrev pub values_by : Form → List ℕ → Option (List Value)
values_by f datum = values_of_datum f.declaration datum >>= λ values. given (fits f.tail values) values

-- The text of a resource's bytes by a form, from a line of its own on, where it states these very bytes again.
unfoldable pub body : Style → Form → List ℕ → Option (List ℕ)
body style f datum =
    values_by f datum >>= λ values. shown style f.declaration values >>= λ text. stating f.declaration datum (10 ∷ text)

-- A text of a resource, and the place of the form by which it states the bytes.
pub record Choice : Type 0 where
  pub place : ℕ
  pub text : List ℕ

-- The text by a form.
abbrev pub text_by : Style → Option Form → List ℕ → Option (List ℕ)
text_by style None datum = None
text_by style (Some f) datum = body style f datum

-- The text by the last of the first n forms by which there is one.
abbrev pub chosen_below : Style → ℕ → List Form → List ℕ → Option Choice
chosen_below style zero forms datum = None
chosen_below style (suc n) forms datum =
    elim (text_by style (slice_get forms n) datum) [
      | None ↦ chosen_below style n forms datum
      | Some text ↦ Some (record { place = n; text = text })
    ]

-- There is none of a resource whose bytes are compressed: More Macintosh Toolbox, chapter 1, "Resource Attributes".
unfoldable pub chosen : Style → List Form → Ref → Option Choice
chosen style forms r = if bit_and r.attrs 1 == 0 then chosen_below style (length forms) forms r.datum else None
