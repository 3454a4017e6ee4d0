-- A typed source begins with a statement, or with one of the comments before the statements.
use Rattle.rez_typed.proofs.Cited.{◌≡◌, Bool, true, false, ◌==◌, ℕ, Option, Some, None, List, [], ◌∷◌, ◌++◌, codes, slice_get, refl, ap}
use Rattle.rez_typed.proofs.Cited.{◌∙◌, sym, subst, if◌then◌else◌, AllByRecursion, flat_map, Ref, Group, Content, Declared, Lettering}
use Rattle.rez_typed.proofs.Cited.{attributes_remark, area_remark, opens_plainly, plain_both, plain_all, statement_opens, attributes_open}
use Rattle.rez_typed.proofs.Cited.{area_opens, SourceStyle, lettering_of, style_of, Form, Choice, chosen, forms_of, typed_head}
use Rattle.rez_typed.proofs.Cited.{typed_statement, declaration_line, chosen_statement, force_after, typed_refs, typed_group, typed_bytes}
use Rattle.rez_typed.specs.Source.{declaring as declared_before}
use Rattle.rez_typed.proofs.Chosen.{IsForm, forms_are, form_at}

line_opens : (kind : ℕ) (forms : List Form) (place : ℕ) (o : Option Form) → AllByRecursion (IsForm kind) forms
    → slice_get forms place ≡ o → opens_plainly (declaration_line o) ≡ true
line_opens kind forms place None all e = refl
line_opens kind forms place (Some f) all e =
    ap (λ t. opens_plainly (t ++ codes "\n\n")) (form_at kind forms place f all e).text

declared_opens : (kind : ℕ) (force : Option ℕ) (place : ℕ) (forms : List Form) → AllByRecursion (IsForm kind) forms
    → opens_plainly (declared_before force place forms) ≡ true
declared_opens kind None place forms all = line_opens kind forms place (slice_get forms place) all refl
declared_opens kind (Some p) place forms all =
    let go : (v : Bool) → opens_plainly (if v then [] else declaration_line (slice_get forms place)) ≡ true =
    λ v. elim v as (λ v. opens_plainly (if v then [] else declaration_line (slice_get forms place)) ≡ true) [
      | true ↦ refl
      | false ↦ line_opens kind forms place (slice_get forms place) all refl
    ] in
    go (p == place)

typed_opens : (lettering : Lettering) (kind : ℕ) (r : Ref) (text : List ℕ) → opens_plainly (typed_statement lettering kind r text) ≡ true
unfolding typed_statement typed_head
typed_opens lettering kind r text = refl

chosen_opens : (lettering : Lettering) (kind : ℕ) (forms : List Form) (force : Option ℕ) (r : Ref) (o : Option Choice)
    → AllByRecursion (IsForm kind) forms → opens_plainly (chosen_statement lettering kind forms force r o) ≡ true
chosen_opens lettering kind forms force r None all = statement_opens lettering kind r
chosen_opens lettering kind forms force r (Some c) all =
    plain_both (declared_before force c.place forms) (typed_statement lettering kind r c.text)
    (declared_opens kind force c.place forms all) (typed_opens lettering kind r c.text)

refs_open : (style : SourceStyle) (kind : ℕ) (forms : List Form) (force : Option ℕ) (refs : List Ref)
    → AllByRecursion (IsForm kind) forms → opens_plainly (typed_refs style kind forms force refs) ≡ true
refs_open style kind forms force [] all = refl
refs_open style kind forms force (r ∷ refs) all =
    let choice = chosen (style_of style kind) forms r in
    plain_both (chosen_statement (lettering_of style.coding) kind forms force r choice)
    (typed_refs style kind forms (force_after force choice) refs)
    (chosen_opens (lettering_of style.coding) kind forms force r choice all)
    (refs_open style kind forms (force_after force choice) refs all)

group_opens : (style : SourceStyle) (tried : List Declared) (g : Group) → opens_plainly (typed_group style tried g) ≡ true
group_opens style tried g = refs_open style g.kind (forms_of g.kind tried) None g.refs (forms_are g.kind tried)

pub bytes_open_plainly : (style : SourceStyle) (tried : List Declared) (c : Content) → opens_plainly (typed_bytes style tried c) ≡ true
unfolding typed_bytes
bytes_open_plainly style tried c =
    plain_both (attributes_remark c.attrs ++ area_remark c.area) (flat_map (typed_group style tried) c.groups)
    (plain_both (attributes_remark c.attrs) (area_remark c.area) (attributes_open c.attrs) (area_opens c.area))
    (plain_all (typed_group style tried) c.groups (group_opens style tried))
