-- Statements `type` and `resource`: what a text of them says, as it is read.
use Rattle.rez_text.proofs.Cited.{◌≡◌, ◌<◌, ◌^◌, ℕ, true, Ok, codes, List, [], ◌∷◌, ◌++◌, refl, ◌∙◌, signed_decimal, Ref, Group, IsRef}
use Rattle.rez_text.proofs.Cited.{Declared, with_type, datum_stated, Lettering, Scope, Said, Files, no_ref, with_ref, word, mark}
use Rattle.rez_text.proofs.Cited.{type_statement, resource_body, inside, keeps, ends_last, scope_after, scope_step, step, between, in_word}
use Rattle.rez_text.proofs.Cited.{declaring, HasBytes, type_literal, name_argument, attributes_argument}
use Rattle.rez_text.specs.declared.mode.Form.TheVariants as forms
use Rattle.rez_text.specs.declared.mode.Mode.TheVariants as mode
use Rattle.rez_text.specs.declared.mode.Place.TheVariants as place
use Rattle.rez_text.specs.Scopes.{outside as unbraced}
use Rattle.rez_text.proofs.Steps.{at, run, after}
use Rattle.rez_text.proofs.Statements.{outside, saying, headed, arguments_run}
use Rattle.rez_text.proofs.Gathered.{body_run, body_closes, declaring_run}

-- what is said within a statement `resource`
abbrev in_resource : Said → Said
in_resource c = record { content = c.content; types = c.types; form = forms.Resource; files = c.files }

resource_opens : (area : List ℕ) (attrs : ℕ) (groups : List Group) (types : List Declared) (files : Files)
    → run (Ok (outside area attrs groups types files)) (codes "resource ")
    ≡ Ok (at mode.Between place.Type [] 0 no_ref (in_resource (saying area attrs groups types files)))
unfolding step between in_word word
resource_opens area attrs groups types files = refl

body_opens : (k : ℕ) (d : Ref) (area : List ℕ) (attrs : ℕ) (groups : List Group) (types : List Declared) (files : Files)
    → run (Ok (at mode.Between place.Brace [] k d (in_resource (saying area attrs groups types files)))) (32 ∷ 123 ∷ [])
    ≡ Ok (at (mode.Body inside) place.Brace [] k d (in_resource (saying area attrs groups types files)))
unfolding step between mark
body_opens k d area attrs groups types files = refl

-- a resource with its datum
abbrev with_bytes : Ref → List ℕ → Ref
with_bytes d bytes = record { id = d.id; name = d.name; attrs = d.attrs; datum = bytes }

body_stated : (at_end : Scope) (text bytes : List ℕ) (k : ℕ) (d : Ref) (c : Said) → datum_stated k text c.types ≡ Ok bytes
    → resource_body (at (mode.Body at_end) place.Brace text k d c)
    ≡ Ok (at mode.Between place.Semicolon [] k (with_bytes d bytes) c)
unfolding resource_body
body_stated at_end text bytes k d c e = rw e refl

resource_closes : (k : ℕ) (d : Ref) (area : List ℕ) (attrs : ℕ) (groups : List Group) (types : List Declared) (files : Files)
    → run (Ok (at mode.Between place.Semicolon [] k d (in_resource (saying area attrs groups types files)))) (codes ";\n\n")
    ≡ Ok (outside area attrs (with_ref k d groups) types files)
unfolding step between mark
resource_closes k d area attrs groups types files = refl

-- a whole statement `resource`, of which the text between the braces states the bytes of the resource
pub resource_run : (lettering : Lettering) (kind : ℕ) (r : Ref) (text area : List ℕ) (attrs : ℕ) (groups : List Group)
    (types : List Declared) (files : Files)
    → kind < 2 ^ 32 → IsRef r → HasBytes r → keeps 125 1 inside text ≡ true → datum_stated kind text types ≡ Ok r.datum
    → run (Ok (outside area attrs groups types files))
    (codes "resource " ++ type_literal kind ++ codes " (" ++ signed_decimal r.id ++ name_argument lettering r.name
    ++ attributes_argument r.attrs ++ codes ") {" ++ text ++ codes "};\n\n")
    ≡ Ok (outside area attrs (with_ref kind r groups) types files)
resource_run lettering kind r text area attrs groups types files small limits bytes kept stated =
    let c = in_resource (saying area attrs groups types files) in
    let s = outside area attrs groups types files in
    let t = at mode.Between place.Brace [] kind (headed r) c in
    let u = at (mode.Body inside) place.Brace [] kind (headed r) c in
    let v = at (mode.Body (scope_after inside text)) place.Brace text kind (headed r) c in
    let w = at mode.Between place.Semicolon [] kind r c in
    let x = codes "resource " ++ type_literal kind ++ codes " (" ++ signed_decimal r.id ++ name_argument lettering r.name
    ++ attributes_argument r.attrs in
    let head = arguments_run lettering (codes "resource ") s kind r c (resource_opens area attrs groups types files) small limits bytes in
    after s v _ (x ++ codes ") {" ++ text) (codes "};\n\n")
    (after s u _ (x ++ codes ") {") text
    (after s head.0 _ x (codes ") {") head.1
    (after head.0 t _ (41 ∷ []) (32 ∷ 123 ∷ []) head.2.close (body_opens kind (headed r) area attrs groups types files)))
    (body_run text inside place.Brace [] kind (headed r) c kept))
    (after v w _ (125 ∷ []) (codes ";\n\n")
    (body_closes text inside place.Brace text kind (headed r) c kept
    ∙ body_stated (scope_after inside text) text r.datum kind (headed r) c stated)
    (resource_closes kind r area attrs groups types files))

type_opens : (c : Said)
    → run (Ok (at mode.Between place.Outside [] 0 no_ref c)) (codes "type ")
    ≡ Ok (at (mode.Declaring unbraced) place.Outside (codes "type ") 0 no_ref c)
unfolding step between in_word word declaring scope_step
type_opens c = refl

type_stated : (text area : List ℕ) (attrs : ℕ) (groups : List Group) (types more : List Declared) (files : Files)
    → with_type text types ≡ Ok more
    → type_statement (at mode.Between place.Outside text 0 no_ref (saying area attrs groups types files))
    ≡ Ok (outside area attrs groups more files)
unfolding type_statement
type_stated text area attrs groups types more files e = rw e refl

lines_between : (area : List ℕ) (attrs : ℕ) (groups : List Group) (types : List Declared) (files : Files)
    → run (Ok (outside area attrs groups types files)) (codes "\n\n") ≡ Ok (outside area attrs groups types files)
unfolding step between
lines_between area attrs groups types files = refl

-- a whole statement `type`, and an empty line
pub type_run : (text area : List ℕ) (attrs : ℕ) (groups : List Group) (types more : List Declared) (files : Files)
    → ends_last 59 0 unbraced text ≡ true → with_type (codes "type " ++ text) types ≡ Ok more
    → run (Ok (outside area attrs groups types files)) (codes "type " ++ text ++ codes "\n\n")
    ≡ Ok (outside area attrs groups more files)
type_run text area attrs groups types more files kept declared =
    let c = saying area attrs groups types files in
    let s = outside area attrs groups types files in
    let t = at (mode.Declaring unbraced) place.Outside (codes "type ") 0 no_ref c in
    let u = outside area attrs groups more files in
    after s u _ (codes "type " ++ text) (codes "\n\n")
    (after s t _ (codes "type ") text (type_opens c)
    (declaring_run text unbraced place.Outside (codes "type ") 0 no_ref c kept
    ∙ type_stated (codes "type " ++ text) area attrs groups types more files declared))
    (lines_between area attrs groups more files)
