use Rattle.std.specs.Prelude.{ℕ, Bool, not, ◌&&◌, Option, Some, None, Result, Ok, Err, List, [], ◌∷◌, codes, take, if◌then◌else◌}
use Rattle.std.specs.List.{list_any}
use Rattle.byteorder.specs.Endian.{big_number}
use Rattle.fork_format.specs.Content.{Ref, Group, Content, is_of}
use Rattle.rez_statements.specs.Types.{Declared, Fault, is_declared, with_type}
use Rattle.rez_templates.specs.Items.{statement, template_statement}

-- Types that the resources of a content declare: its templates ('TMPL'), and its bundles ('BNDL'), each of which names the signature of an
-- application. ResEdit Reference, the chapter on templates; Macintosh Toolbox Essentials, chapter 7, "Finder Interface".

-- The types after a statement; those before it where it can't be read.
abbrev pub declared_by : Result (List Declared) Fault → List Declared → List Declared
declared_by (Ok new) types = new
declared_by (Err fault) types = types

abbrev pub after : Option (List ℕ) → List Declared → List Declared
after None types = types
after (Some text) types = declared_by (with_type text types) types

-- A type is not declared, and there are resources of it.
abbrev pub is_wanted : List Group → ℕ → List Declared → Bool
is_wanted groups kind types = not (is_declared kind types) && list_any (is_of kind) groups

-- The types after a statement that is for the type of these four bytes.
unfoldable pub with_statement : List Group → List ℕ → Option (List ℕ) → List Declared → List Declared
with_statement groups ty text types = if is_wanted groups (big_number 4 ty) types then after text types else types

-- The type that a template is for: the four bytes of its name.
abbrev pub type_named : Option (List ℕ) → Option (List ℕ)
type_named (Some (a ∷ b ∷ c ∷ d ∷ [])) = Some (a ∷ b ∷ c ∷ d ∷ [])
type_named name = None

-- The signature that a bundle names: its first four bytes.
abbrev pub signature : List ℕ → Option (List ℕ)
signature (a ∷ b ∷ c ∷ d ∷ rest) = Some (a ∷ b ∷ c ∷ d ∷ [])
signature bytes = None

-- The types after a template.
unfoldable pub with_template : List Group → Ref → List Declared → List Declared
with_template groups r types = elim (type_named r.name) [
  | None ↦ types
  | Some ty ↦ with_statement groups ty (template_statement ty r.datum) types
]

-- The types after a bundle: a resource of the signature is a Pascal string.
unfoldable pub with_bundle : List Group → Ref → List Declared → List Declared
with_bundle groups r types = elim (signature r.datum) [
  | None ↦ types
  | Some ty ↦ with_statement groups ty (Some (statement ty (codes "pstring; "))) types
]

-- The types after templates, and after bundles, in turn.
abbrev pub with_all : (Ref → List Declared → List Declared) → List Ref → List Declared → List Declared
with_all one [] types = types
with_all one (r ∷ refs) types = with_all one refs (one r types)

-- The resources of a type.
abbrev pub refs_of_type : ℕ → List Group → List Ref
refs_of_type kind [] = []
refs_of_type kind (g ∷ groups) = if is_of kind g then g.refs else refs_of_type kind groups

-- The first 1,024 of them.
unfoldable pub first_of : ℕ → List Group → List Ref
first_of kind groups = take 1024 (refs_of_type kind groups)

-- The types after the first 1,024 templates and the first 1,024 bundles of a content. So each type is declared by the first of its
-- templates that can be stated; where there is none, as a signature.
unfoldable pub with_templates : Content → List Declared → List Declared
with_templates c types =
    with_all (with_bundle c.groups) (first_of (big_number 4 (codes "BNDL")) c.groups)
    (with_all (with_template c.groups) (first_of (big_number 4 (codes "TMPL")) c.groups) types)
