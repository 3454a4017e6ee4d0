-- What a form, and a choice among forms, are known to state.
use Rattle.rez_typed.proofs.Cited.{◌≡◌, ℕ, zero, suc, ◌+◌, ◌-◌, ◌<◌, ◌==◌, Bool, true, false, Option, Some, None, Result, Ok, Err, List, []}
use Rattle.rez_typed.proofs.Cited.{◌∷◌, ◌++◌, codes, drop, length, slice_get, refl, ap, ◌∙◌, sym, subst, if◌then◌else◌, eqb-true, arith}
use Rattle.rez_typed.proofs.Cited.{and_parts, bytes_eq-Decides, AllByRecursion, flat_map, Ref, Declaration, ◌>>=◌, Value, Stated, Declared}
use Rattle.rez_typed.proofs.Cited.{Fault, declares, datum_by, Style, shown, declared_text, tailed_text, open_text, type_word, keeps}
use Rattle.rez_typed.proofs.Cited.{ends_last, inside, Tail, Form, own_of, form_declared, form_by, text_with, form_of, one_of, forms_with}
use Rattle.rez_typed.proofs.Cited.{forms_of, is_statement, are_bytes, states, stating, values_by, body, Choice, text_by, chosen_below}
use Rattle.rez_typed.proofs.Cited.{chosen}
use Rattle.rez_declarations.specs.Declaring as stated
use Rattle.rez_text.specs.Scopes.{outside}
use Rattle.rez_typed.specs.declared.form.Tail.TheVariants as tails

-- The text of a form is one statement, which declares the type by its declaration.
pub record IsForm (kind : ℕ) (f : Form) : Type 0 where
  pub rest : List ℕ
  pub text : f.text ≡ codes "type " ++ rest
  pub kept : ends_last 59 0 outside rest ≡ true
  pub declared : declares f.text ≡ Ok (kind, stated.Declared f.declaration)

own_is : (kind : ℕ) (r : Result (ℕ × Stated) Fault) (d : Declaration) → own_of kind r ≡ Some d
    → r ≡ Ok (kind, stated.Declared d)
own_is kind (Err e) d h = absurd (cc)
own_is kind (Ok (other, stated.As name)) d h = absurd (cc)
own_is kind (Ok (other, stated.Declared e)) d h = grind (arith, eqb-true)

-- a text that begins with the word
front_is : (tail : Tail) (kind : ℕ) (d : Declaration) → text_with tail kind d ≡ codes "type " ++ drop 5 (text_with tail kind d)
unfolding declared_text tailed_text open_text type_word
front_is tails.None kind d = refl
front_is tails.Short kind d = refl

declared_is : (tail : Tail) (text : List ℕ) (o : Option Declaration) (f : Form) → form_declared tail text o ≡ Some f
    → (f.text ≡ text) × (o ≡ Some f.declaration)
declared_is tail text None f h = absurd (cc)
declared_is tail text (Some d) f h = grind arith

formed : (tail : Tail) (kind : ℕ) (text rest : List ℕ) (f : Form) → text ≡ codes "type " ++ rest → form_by tail kind text ≡ Some f
    → IsForm kind f
formed tail kind text rest f e h =
    let go : (v : Bool) → is_statement text ≡ v
    → (if v then form_declared tail text (own_of kind (declares text)) else None) ≡ Some f → IsForm kind f =
    λ v. elim v as (λ v. is_statement text ≡ v
    → (if v then form_declared tail text (own_of kind (declares text)) else None) ≡ Some f → IsForm kind f) [
      | true ↦ λ kept k.
          let d = declared_is tail _ _ f k in
          record {
            rest = rest;
            text = d.0 ∙ e;
            kept = subst (λ t. ends_last 59 0 outside (drop 5 t) ≡ true) e kept;
            declared = subst (λ t. declares t ≡ Ok (kind, stated.Declared f.declaration)) (sym d.0) (own_is kind _ f.declaration d.1);
          }
      | false ↦ λ kept k. absurd (cc)
    ] in
    go (is_statement text) refl h

form_is : (tail : Tail) (kind : ℕ) (d : Declaration) (f : Form) → form_of tail kind d ≡ Some f → IsForm kind f
unfolding form_of
form_is tail kind d f h =
    formed tail kind (text_with tail kind d) (drop 5 (text_with tail kind d)) f (front_is tail kind d) h

one_is : (tail : Tail) (kind : ℕ) (d : Declaration) (o : Option Form) → form_of tail kind d ≡ o
    → AllByRecursion (IsForm kind) (one_of o)
one_is tail kind d None h = tt
one_is tail kind d (Some f) h = (form_is tail kind d f h, tt)

with_is : (tail : Tail) (kind : ℕ) (t : Declared) (v : Bool)
    → AllByRecursion (IsForm kind) (if v then one_of (form_of tail kind t.declaration) else [])
with_is tail kind t true = one_is tail kind t.declaration (form_of tail kind t.declaration) refl
with_is tail kind t false = tt

both : (P : Form → Type 0) (xs ys : List Form) → AllByRecursion P xs → AllByRecursion P ys → AllByRecursion P (xs ++ ys)
both P [] ys a b = b
both P (x ∷ xs) ys a b = (a.0, both P xs ys a.1 b)

with_tail_are : (tail : Tail) (kind : ℕ) (types : List Declared) → AllByRecursion (IsForm kind) (flat_map (forms_with tail kind) types)
with_tail_are tail kind [] = tt
with_tail_are tail kind (t ∷ types) =
    both (IsForm kind) (forms_with tail kind t) (flat_map (forms_with tail kind) types) (with_is tail kind t (t.kind == kind))
    (with_tail_are tail kind types)

-- Each form of a type is one.
pub forms_are : (kind : ℕ) (types : List Declared) → AllByRecursion (IsForm kind) (forms_of kind types)
forms_are kind types =
    both (IsForm kind) (flat_map (forms_with tails.Short kind) types) (flat_map (forms_with tails.None kind) types)
    (with_tail_are tails.Short kind types) (with_tail_are tails.None kind types)

-- The form at a place.
pub form_at : (kind : ℕ) (forms : List Form) (n : ℕ) (f : Form) → AllByRecursion (IsForm kind) forms → slice_get forms n ≡ Some f
    → IsForm kind f
form_at kind [] n f all h = absurd (cc)
form_at kind (x ∷ forms) zero f all h = let e : x ≡ f = cc in subst (IsForm kind) e all.0
form_at kind (x ∷ forms) (suc n) f all h = form_at kind forms n f all.1 h

bytes_are : (datum : List ℕ) (r : Result (List ℕ) Fault) → are_bytes datum r ≡ true → r ≡ Ok datum
bytes_are datum (Err e) h = absurd (cc)
bytes_are datum (Ok bytes) h = ap Ok ((bytes_eq-Decides bytes datum).0 h)

-- A text that states bytes.
pub record IsStated (d : Declaration) (datum text : List ℕ) : Type 0 where
  pub kept : keeps 125 1 inside text ≡ true
  pub stated : datum_by d text ≡ Ok datum

stated_is : (d : Declaration) (datum text : List ℕ) → states d datum text ≡ true → IsStated d datum text
stated_is d datum text h =
    let parts = and_parts (keeps 125 1 inside text) (are_bytes datum (datum_by d text)) h in
    record { kept = parts.0; stated = bytes_are datum (datum_by d text) parts.1 }

stating_is : (d : Declaration) (datum text out : List ℕ) → stating d datum text ≡ Some out → IsStated d datum out
stating_is d datum text out h =
    let go : (v : Bool) → states d datum text ≡ v → (if v then Some text else None) ≡ Some out → IsStated d datum out =
    λ v. elim v as (λ v. states d datum text ≡ v → (if v then Some text else None) ≡ Some out → IsStated d datum out) [
      | true ↦ λ q k. let e : text ≡ out = cc in subst (IsStated d datum) e (stated_is d datum text q)
      | false ↦ λ q k. absurd (cc)
    ] in
    go (states d datum text) refl h

shown_is : (d : Declaration) (datum : List ℕ) (o : Option (List ℕ)) (out : List ℕ)
    → (o >>= λ text. stating d datum (10 ∷ text)) ≡ Some out → IsStated d datum out
shown_is d datum None out h = absurd (cc)
shown_is d datum (Some text) out h = stating_is d datum (10 ∷ text) out h

decoded_is : (style : Style) (d : Declaration) (datum : List ℕ) (o : Option (List Value)) (out : List ℕ)
    → (o >>= λ values. shown style d values >>= λ text. stating d datum (10 ∷ text)) ≡ Some out → IsStated d datum out
decoded_is style d datum None out h = absurd (cc)
decoded_is style d datum (Some values) out h = shown_is d datum (shown style d values) out h

body_is : (style : Style) (f : Form) (datum out : List ℕ) → body style f datum ≡ Some out → IsStated f.declaration datum out
unfolding body
body_is style f datum out h = decoded_is style f.declaration datum (values_by f datum) out h

-- A choice: its form, and its text, which states the bytes.
pub record IsChosen (forms : List Form) (datum : List ℕ) (c : Choice) : Type 0 where
  pub form : Form
  pub there : slice_get forms c.place ≡ Some form
  pub stated : IsStated form.declaration datum c.text

text_is : (style : Style) (forms : List Form) (n : ℕ) (datum text : List ℕ) (o : Option Form) → slice_get forms n ≡ o
    → text_by style o datum ≡ Some text → IsChosen forms datum (record { place = n; text = text })
text_is style forms n datum text None e h = absurd (cc)
text_is style forms n datum text (Some f) e h = record { form = f; there = e; stated = body_is style f datum text h }

below_is : (style : Style) (forms : List Form) (datum : List ℕ) (n : ℕ) (c : Choice) → chosen_below style n forms datum ≡ Some c
    → IsChosen forms datum c
below_is style forms datum zero c h = absurd (cc)
below_is style forms datum (suc n) c h =
    let go : (o : Option (List ℕ)) → text_by style (slice_get forms n) datum ≡ o
    → elim o [ None ↦ chosen_below style n forms datum | Some text ↦ Some (record { place = n; text = text }) ] ≡ Some c
    → IsChosen forms datum c =
    λ o. elim o as (λ o. text_by style (slice_get forms n) datum ≡ o
    → elim o [ None ↦ chosen_below style n forms datum | Some text ↦ Some (record { place = n; text = text }) ] ≡ Some c
    → IsChosen forms datum c) [
      | None ↦ λ q k. below_is style forms datum n c k
      | Some text ↦ λ q k.
          let e : record { place = n; text = text } ≡ c = cc in
          subst (IsChosen forms datum) e (text_is style forms n datum text (slice_get forms n) refl q)
    ] in
    go (text_by style (slice_get forms n) datum) refl h

-- What is chosen for a resource.
pub chosen_is : (style : Style) (forms : List Form) (r : Ref) (c : Choice) → chosen style forms r ≡ Some c → IsChosen forms r.datum c
unfolding chosen
chosen_is style forms r c h =
    let go : (v : Bool) → (if v then chosen_below style (length forms) forms r.datum else None) ≡ Some c → IsChosen forms r.datum c =
    λ v. elim v as (λ v. (if v then chosen_below style (length forms) forms r.datum else None) ≡ Some c → IsChosen forms r.datum c) [
      | true ↦ λ k. below_is style forms r.datum (length forms) c k
      | false ↦ λ k. absurd (cc)
    ] in
    go _ h

-- One more turn of the search.
pub chosen_on : (style : Style) (n i : ℕ) (forms : List Form) (datum : List ℕ) → i < n
    → chosen_below style (n - i) forms datum
    ≡ elim (text_by style (slice_get forms (n - 1 - i)) datum) [
      | None ↦ chosen_below style (n - (i + 1)) forms datum
      | Some text ↦ Some (record { place = n - 1 - i; text = text })
    ]
chosen_on style n i forms datum h =
    let e : n - i ≡ suc (n - 1 - i) = omega arith in
    let f : n - 1 - i ≡ n - (i + 1) = omega arith in
    ap (λ k. chosen_below style k forms datum) e
    ∙ ap (λ k. elim (text_by style (slice_get forms (n - 1 - i)) datum) [
      | None ↦ chosen_below style k forms datum
      | Some text ↦ Some (record { place = n - 1 - i; text = text })
    ]) f
