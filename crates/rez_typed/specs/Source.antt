use Rattle.std.specs.Prelude.{ℕ, ℤ, ◌==◌, Bool, false, Option, Some, None, List, [], ◌∷◌, ◌++◌, codes, slice_get, nat_lt, if◌then◌else◌}
use Rattle.std.specs.List.{flat_map, list_all}
use Rattle.std.specs.Fmt.{signed_decimal}
use Rattle.mac_roman.specs.Roman.{from_roman}
use Rattle.fork_format.specs.Content.{Ref, Group, Content}
use Rattle.rez_text.specs.Printing.{type_literal, name_argument, attributes_argument, statement, attributes_remark, area_remark}
use Rattle.rez_statements.specs.Types.{Declared}
use Rattle.rez_text.specs.declared.lettering.Lettering.{Lettering}
use Rattle.rez_text.specs.Coding.{coding_comment}
use Rattle.rez_typed.specs.declared.style.Coding.{Coding}
use Rattle.rez_typed.specs.declared.style.Coding.TheVariants as coding
use Rattle.rez_typed.specs.declared.style.SourceStyle.{SourceStyle}
use Rattle.rez_typed.specs.Styles.{lettering_of, style_of}
use Rattle.rez_typed.specs.Forms.{Form, Choice, chosen, forms_of}

-- The content of a resource fork as source of Rez with typed statements: Macintosh Programmer's Workshop: Building and Managing
-- Programs in MPW, chapter Rez.

-- The type and the ID of a resource, and what stands before them.
abbrev pub typed_opening : ℕ → ℤ → List ℕ
typed_opening kind id = codes "resource " ++ type_literal kind ++ codes " (" ++ signed_decimal id

-- What stands before the values of a resource: its type, ID, name and attributes.
unfoldable pub typed_head : Lettering → ℕ → Ref → List ℕ
typed_head lettering kind r =
    typed_opening kind r.id ++ name_argument lettering r.name ++ attributes_argument r.attrs ++ codes ") {"

-- A resource by the text of its values, and an empty line.
unfoldable pub typed_statement : Lettering → ℕ → Ref → List ℕ → List ℕ
typed_statement lettering kind r text = typed_head lettering kind r ++ text ++ codes "};\n\n"

-- A form is in force.
abbrev pub is_in_force : Option ℕ → ℕ → Bool
is_in_force None place = false
is_in_force (Some force) place = force == place

-- The statement that declares a form, and an empty line.
abbrev pub declaration_line : Option Form → List ℕ
declaration_line None = []
declaration_line (Some f) = f.text ++ codes "\n\n"

-- This statement where another form or none is in force.
abbrev pub declaring : Option ℕ → ℕ → List Form → List ℕ
declaring force place forms = if is_in_force force place then [] else declaration_line (slice_get forms place)

-- A resource with the statement before it that declares its type; as `data` where no form states it.
abbrev pub chosen_statement : Lettering → ℕ → List Form → Option ℕ → Ref → Option Choice → List ℕ
chosen_statement lettering kind forms force r None = statement lettering kind r
chosen_statement lettering kind forms force r (Some c) =
    declaring force c.place forms ++ typed_statement lettering kind r c.text

-- The form that is in force after it.
abbrev pub force_after : Option ℕ → Option Choice → Option ℕ
force_after force None = force
force_after force (Some c) = Some c.place

-- The resources of a type.
abbrev pub typed_refs : SourceStyle → ℕ → List Form → Option ℕ → List Ref → List ℕ
typed_refs style kind forms force [] = []
typed_refs style kind forms force (r ∷ refs) =
    chosen_statement (lettering_of style.coding) kind forms force r (chosen (style_of style kind) forms r)
    ++ typed_refs style kind forms (force_after force (chosen (style_of style kind) forms r)) refs

abbrev pub typed_group : SourceStyle → List Declared → Group → List ℕ
typed_group style types g = typed_refs style g.kind (forms_of g.kind types) None g.refs

-- A content by the declarations of types, as bytes in Mac Roman. Each form is declared in the text, so that the text alone says what
-- the fork is.
unfoldable pub typed_bytes : SourceStyle → List Declared → Content → List ℕ
typed_bytes style types c =
    attributes_remark c.attrs ++ area_remark c.area ++ flat_map (typed_group style types) c.groups

-- A text in a coding. Those that a program holds are of bytes.
abbrev pub is_byte : ℕ → Bool
is_byte b = nat_lt b 256

abbrev pub coded : Coding → List ℕ → List ℕ
coded (coding.Bytes charset) text = text
coded coding.Utf8 text = if list_all is_byte text then coding_comment ++ from_roman text else text

unfoldable pub typed_source : SourceStyle → List Declared → Content → List ℕ
typed_source style types c = coded style.coding (typed_bytes style types c)
