-- Typed statements: what is printed is read again.
use Rattle.rez_typed.proofs.Cited.{◌≡◌, ◌<◌, ◌^◌, ◌==◌, ℕ, Bool, true, false, Option, Some, None, Ok, codes, List, [], ◌∷◌, ◌++◌, slice_get}
use Rattle.rez_typed.proofs.Cited.{refl, ap, ◌∙◌, sym, subst, eqb-true, arith, if◌then◌else◌, AllByRecursion, flat_map, Ref, Group, IsRef}
use Rattle.rez_typed.proofs.Cited.{IsGroup, Declaration, Style, Declared, with_type, in_force, datum_stated, Lettering, State, Files}
use Rattle.rez_typed.proofs.Cited.{with_ref, HasBytes, run, after, outside, statement_run, with_all, with_groups, type_run, resource_run}
use Rattle.rez_typed.proofs.Cited.{SourceStyle, lettering_of, style_of, Form, Choice, chosen, forms_of, typed_head, typed_statement}
use Rattle.rez_typed.proofs.Cited.{declaration_line, chosen_statement, force_after, typed_refs, typed_group}
use Rattle.rez_typed.specs.Source.{declaring as declared_before}
use Rattle.rez_typed.proofs.Chosen.{IsForm, IsStated, forms_are, form_at, chosen_is}

-- the types with a declaration more
abbrev pub with_form : ℕ → Form → List Declared → List Declared
with_form kind f types = types ++ record { kind = kind; declaration = f.declaration } ∷ []

declared_type : (kind : ℕ) (f : Form) (types : List Declared) → IsForm kind f → with_type f.text types ≡ Ok (with_form kind f types)
unfolding with_type
declared_type kind f types is = rw is.declared refl

-- the last declaration is in force
last_is : (kind : ℕ) (d : Declaration) (types : List Declared)
    → in_force kind (types ++ record { kind = kind; declaration = d } ∷ []) ≡ Some d
last_is kind d [] = grind arith
last_is kind d (t ∷ types) = rw (last_is kind d types) refl

-- the statement that declares a form
declaration_run : (kind : ℕ) (f : Form) (area : List ℕ) (attrs : ℕ) (groups : List Group) (types : List Declared) (files : Files)
    → IsForm kind f
    → run (Ok (outside area attrs groups types files)) (f.text ++ codes "\n\n")
    ≡ Ok (outside area attrs groups (with_form kind f types) files)
declaration_run kind f area attrs groups types files is =
    ap (λ t. run (Ok (outside area attrs groups types files)) (t ++ codes "\n\n")) is.text
    ∙ type_run is.rest area attrs groups types (with_form kind f types) files is.kept
    (subst (λ t. with_type t types ≡ Ok (with_form kind f types)) is.text (declared_type kind f types is))

datum_is : (kind : ℕ) (d : Declaration) (datum text : List ℕ) (types : List Declared) → in_force kind types ≡ Some d
    → IsStated d datum text → datum_stated kind text types ≡ Ok datum
unfolding datum_stated
datum_is kind d datum text types e is = rw e is.stated

-- a typed statement
typed_run : (lettering : Lettering) (kind : ℕ) (r : Ref) (area : List ℕ) (attrs : ℕ) (groups : List Group) (types : List Declared)
    (files : Files) (text : List ℕ) (form : Declaration) → kind < 2 ^ 32 → IsRef r → HasBytes r → in_force kind types ≡ Some form
    → IsStated form r.datum text
    → run (Ok (outside area attrs groups types files)) (typed_statement lettering kind r text)
    ≡ Ok (outside area attrs (with_ref kind r groups) types files)
unfolding typed_statement typed_head
typed_run lettering kind r area attrs groups types files text form small limits bytes force is =
    resource_run lettering kind r text area attrs groups types files small limits bytes is.kept
    (datum_is kind form r.datum text types force is)

-- Among the types the form that is in force is the last of its type.
abbrev pub Forced : ℕ → List Form → Option ℕ → List Declared → Type 0
Forced kind forms None types = Unit {0}
Forced kind forms (Some place) types = (f : Form) → slice_get forms place ≡ Some f → in_force kind types ≡ Some f.declaration

-- Where printed statements lead, and what is known of the types that are declared then.
pub record IsLed (s : State) (text area : List ℕ) (attrs : ℕ) (groups : List Group) (files : Files) (P : List Declared → Type 0)
    : Type 0 where
  pub types : List Declared
  pub led : run (Ok s) text ≡ Ok (outside area attrs groups types files)
  pub holds : P types

declared_now : (kind : ℕ) (f : Form) (o : Option Form) (area : List ℕ) (attrs : ℕ) (groups : List Group) (types : List Declared)
    (files : Files) → IsForm kind f → o ≡ Some f
    → IsLed (outside area attrs groups types files) (declaration_line o) area attrs groups files
    (λ new. in_force kind new ≡ Some f.declaration)
declared_now kind f o area attrs groups types files is there =
    subst (λ o. IsLed (outside area attrs groups types files) (declaration_line o) area attrs groups files
    (λ new. in_force kind new ≡ Some f.declaration)) (sym there) (record {
      types = with_form kind f types;
      led = declaration_run kind f area attrs groups types files is;
      holds = last_is kind f.declaration types;
    })

-- the form of a resource is in force, or is declared
declared_led : (kind : ℕ) (forms : List Form) (f : Form) (place : ℕ) (force : Option ℕ) (area : List ℕ) (attrs : ℕ)
    (groups : List Group) (types : List Declared) (files : Files) → IsForm kind f → slice_get forms place ≡ Some f
    → Forced kind forms force types
    → IsLed (outside area attrs groups types files) (declared_before force place forms) area attrs groups files
    (λ new. in_force kind new ≡ Some f.declaration)
declared_led kind forms f place None area attrs groups types files is there forced =
    declared_now kind f (slice_get forms place) area attrs groups types files is there
declared_led kind forms f place (Some p) area attrs groups types files is there forced =
    let s = outside area attrs groups types files in
    let go : (v : Bool) → (p == place) ≡ v
    → IsLed s (if v then [] else declaration_line (slice_get forms place)) area attrs groups files
    (λ new. in_force kind new ≡ Some f.declaration) =
    λ v. elim v as (λ v. (p == place) ≡ v
    → IsLed s (if v then [] else declaration_line (slice_get forms place)) area attrs groups files
    (λ new. in_force kind new ≡ Some f.declaration)) [
      | true ↦ λ q.
          record { types = types; led = refl; holds = forced f (ap (slice_get forms) (eqb-true p place q) ∙ there) }
      | false ↦ λ q. declared_now kind f (slice_get forms place) area attrs groups types files is there
    ] in
    go (p == place) refl

same_form : (o : Option Form) (f g : Form) → o ≡ Some f → o ≡ Some g → f ≡ g
same_form o f g e h = cc

-- a resource, as it is printed
chosen_led : (lettering : Lettering) (style : Style) (kind : ℕ) (forms : List Form) (force : Option ℕ) (r : Ref) (o : Option Choice)
    (area : List ℕ) (attrs : ℕ) (groups : List Group) (types : List Declared) (files : Files) → kind < 2 ^ 32 → IsRef r → HasBytes r
    → AllByRecursion (IsForm kind) forms → chosen style forms r ≡ o → Forced kind forms force types
    → IsLed (outside area attrs groups types files) (chosen_statement lettering kind forms force r o) area attrs
    (with_ref kind r groups) files (Forced kind forms (force_after force o))
chosen_led lettering style kind forms force r None area attrs groups types files small limits bytes all e forced =
    record { types = types; led = statement_run lettering kind r area attrs groups types files small limits bytes; holds = forced }
chosen_led lettering style kind forms force r (Some c) area attrs groups types files small limits bytes all e forced =
    let is = chosen_is style forms r c e in
    let d = declared_led kind forms is.form c.place force area attrs groups types files
    (form_at kind forms c.place is.form all is.there) is.there forced in
    record {
      types = d.types;
      led =
          after (outside area attrs groups types files) (outside area attrs groups d.types files) _
          (declared_before force c.place forms) (typed_statement lettering kind r c.text) d.led
          (typed_run lettering kind r area attrs groups d.types files c.text is.form.declaration small limits bytes d.holds is.stated);
      holds = λ f there. d.holds ∙ ap (λ (x : Form). Some x.declaration) (same_form _ _ _ is.there there);
    }

refs_led : (style : SourceStyle) (kind : ℕ) (forms : List Form) (force : Option ℕ) (refs : List Ref) (area : List ℕ) (attrs : ℕ)
    (groups : List Group) (types : List Declared) (files : Files) → kind < 2 ^ 32 → AllByRecursion IsRef refs
    → AllByRecursion HasBytes refs → AllByRecursion (IsForm kind) forms → Forced kind forms force types
    → IsLed (outside area attrs groups types files) (typed_refs style kind forms force refs) area attrs (with_all kind refs groups) files
    (λ new. Unit {0})
refs_led style kind forms force [] area attrs groups types files small limits bytes all forced =
    record { types = types; led = refl; holds = tt }
refs_led style kind forms force (r ∷ refs) area attrs groups types files small limits bytes all forced =
    let lettering = lettering_of style.coding in
    let choice = chosen (style_of style kind) forms r in
    let one = chosen_led lettering (style_of style kind) kind forms force r choice area attrs groups types files small limits.0 bytes.0
    all refl forced in
    let rest = refs_led style kind forms (force_after force choice) refs area attrs (with_ref kind r groups) one.types files small
    limits.1 bytes.1 all one.holds in
    record {
      types = rest.types;
      led =
          after (outside area attrs groups types files) (outside area attrs (with_ref kind r groups) one.types files) _
          (chosen_statement lettering kind forms force r choice) (typed_refs style kind forms (force_after force choice) refs)
          one.led rest.led;
      holds = tt;
    }

-- all typed statements
pub typed_groups_led : (style : SourceStyle) (tried : List Declared) (more : List Group) (area : List ℕ) (attrs : ℕ)
    (groups : List Group) (types : List Declared) (files : Files) → AllByRecursion IsGroup more
    → AllByRecursion (λ (g : Group). AllByRecursion HasBytes g.refs) more
    → IsLed (outside area attrs groups types files) (flat_map (typed_group style tried) more) area attrs (with_groups more groups) files
    (λ new. Unit {0})
typed_groups_led style tried [] area attrs groups types files limits bytes = record { types = types; led = refl; holds = tt }
typed_groups_led style tried (g ∷ more) area attrs groups types files limits bytes =
    let one = refs_led style g.kind (forms_of g.kind tried) None g.refs area attrs groups types files limits.0.kind limits.0.refs bytes.0
    (forms_are g.kind tried) tt in
    let rest = typed_groups_led style tried more area attrs (with_all g.kind g.refs groups) one.types files limits.1 bytes.1 in
    record {
      types = rest.types;
      led =
          after (outside area attrs groups types files) (outside area attrs (with_all g.kind g.refs groups) one.types files) _
          (typed_group style tried g) (flat_map (typed_group style tried) more) one.led rest.led;
      holds = tt;
    }
