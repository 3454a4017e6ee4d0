-- Statements: what is printed is read again.
use Rattle.rez_text.proofs.Cited.{◌≡◌, ◌<◌, ◌^◌, ℕ, Ok, codes, List, [], ◌∷◌, ◌++◌, refl, AllByRecursion, flat_map, signed_decimal}
use Rattle.rez_text.proofs.Cited.{Lettering, Ref, Group, IsRef, IsGroup, Declared, Said, State, Files, no_ref, with_ref, word, mark, step}
use Rattle.rez_text.proofs.Cited.{between, in_word, HasBytes, type_literal, name_argument, attributes_argument, statement_head, statement}
use Rattle.rez_text.proofs.Cited.{data_lines, line_count, group_statements}
use Rattle.rez_text.specs.declared.mode.Form.TheVariants as forms
use Rattle.rez_text.specs.declared.mode.Mode.TheVariants as mode
use Rattle.rez_text.specs.declared.mode.Place.TheVariants as place
use Rattle.rez_text.proofs.Steps.{at, run, after}
use Rattle.rez_text.proofs.Lines.{data_run}
use Rattle.rez_text.proofs.Quotes.{type_run}
use Rattle.rez_text.proofs.Arguments.{Argues, attributes_run}
use Rattle.rez_text.proofs.Ids.{id_run, named_run}

-- a content and types, in a statement `data`
abbrev pub saying : List ℕ → ℕ → List Group → List Declared → Files → Said
saying area attrs groups types files = record {
  content = record { area = area; attrs = attrs; groups = groups };
  types = types;
  form = forms.Data;
  files = files;
}

-- the same between statements
abbrev pub outside : List ℕ → ℕ → List Group → List Declared → Files → State
outside area attrs groups types files = at mode.Between place.Outside [] 0 no_ref (saying area attrs groups types files)

-- what is said within a statement `data`
abbrev pub in_data : Said → Said
in_data c = record { content = c.content; types = c.types; form = forms.Data; files = c.files }

statement_opens : (c : Said)
    → run (Ok (at mode.Between place.Outside [] 0 no_ref c)) (codes "data ")
    ≡ Ok (at mode.Between place.Type [] 0 no_ref (in_data c))
unfolding step between in_word word
statement_opens c = refl

parenthesis_run : (k : ℕ) (c : Said)
    → run (Ok (at mode.Between place.Parenthesis [] k no_ref c)) (codes " (")
    ≡ Ok (at mode.Between place.Id [] k no_ref c)
unfolding step between mark
parenthesis_run k c = refl

brace_run : (k : ℕ) (d : Ref) (c : Said)
    → run (Ok (at mode.Between place.Brace [] k d (in_data c))) (32 ∷ 123 ∷ 10 ∷ [])
    ≡ Ok (at mode.Between place.Data [] k d (in_data c))
unfolding step between mark
brace_run k d c = refl

statement_closes : (k : ℕ) (d : Ref) (area : List ℕ) (attrs : ℕ) (groups : List Group) (types : List Declared) (files : Files)
    → run (Ok (at mode.Between place.Data [] k d (saying area attrs groups types files)))
    (codes "};\n\n") ≡ Ok (outside area attrs (with_ref k d groups) types files)
unfolding step between mark
statement_closes k d area attrs groups types files = refl

-- a resource of which no data is stated yet
abbrev pub headed : Ref → Ref
headed r = record { id = r.id; name = r.name; attrs = r.attrs; datum = [] }

-- what stands between the word of a statement and its closing parenthesis
pub arguments_run : (lettering : Lettering) (w : List ℕ) (s : State) (kind : ℕ) (r : Ref) (c : Said)
    → run (Ok s) w ≡ Ok (at mode.Between place.Type [] 0 no_ref c) → kind < 2 ^ 32 → IsRef r → HasBytes r
    → Argues s (w ++ type_literal kind ++ codes " (" ++ signed_decimal r.id ++ name_argument lettering r.name
    ++ attributes_argument r.attrs) kind (headed r) c
arguments_run lettering w s kind r c begun small limits bytes =
    let s1 = at mode.Between place.Type [] 0 no_ref c in
    let s2 = at mode.Between place.Parenthesis [] kind no_ref c in
    let s3 = at mode.Between place.Id [] kind no_ref c in
    let x2 = type_literal kind in
    let x3 = codes " (" in
    let x4 = signed_decimal r.id in
    let x5 = name_argument lettering r.name in
    let x6 = attributes_argument r.attrs in
    let id = id_run r.id kind c limits.id in
    let name = named_run lettering r.name r.id id.0 kind c limits.name bytes.name id.2 in
    let attrs = attributes_run r.attrs name.0 kind (record { id = r.id; name = r.name; attrs = 0; datum = [] }) c
    limits.attrs refl name.2 in (
      attrs.0,
      after s name.0 _ (w ++ x2 ++ x3 ++ x4 ++ x5) x6
          (after s id.0 _ (w ++ x2 ++ x3 ++ x4) x5
          (after s s3 _ (w ++ x2 ++ x3) x4
          (after s s2 _ (w ++ x2) x3 (after s s1 _ w x2 begun (type_run kind no_ref c small)) (parenthesis_run kind c))
          id.1)
          name.1)
          attrs.1,
      attrs.2,
    )

-- what stands before the data
head_run : (lettering : Lettering) (kind : ℕ) (r : Ref) (c : Said) → kind < 2 ^ 32 → IsRef r → HasBytes r
    → run (Ok (at mode.Between place.Outside [] 0 no_ref c)) (statement_head lettering kind r)
    ≡ Ok (at mode.Between place.Data [] kind (headed r) (in_data c))
unfolding statement_head
head_run lettering kind r c small limits bytes =
    let s = at mode.Between place.Outside [] 0 no_ref c in
    let t = at mode.Between place.Brace [] kind (headed r) (in_data c) in
    let head = arguments_run lettering (codes "data ") s kind r (in_data c) (statement_opens c) small limits bytes in
    after s head.0 _
    (codes "data " ++ type_literal kind ++ codes " (" ++ signed_decimal r.id ++ name_argument lettering r.name ++ attributes_argument
    r.attrs) (codes ") {\n") head.1 (after head.0 t _ (41 ∷ []) (32 ∷ 123 ∷ 10 ∷ []) head.2.close (brace_run kind (headed r) c))

-- a whole statement
pub statement_run : (lettering : Lettering) (kind : ℕ) (r : Ref) (area : List ℕ) (attrs : ℕ) (groups : List Group)
    (types : List Declared) (files : Files) → kind < 2 ^ 32 → IsRef r
    → HasBytes r
    → run (Ok (outside area attrs groups types files)) (statement lettering kind r)
    ≡ Ok (outside area attrs (with_ref kind r groups) types files)
statement_run lettering kind r area attrs groups types files small limits bytes =
    let c = saying area attrs groups types files in
    let d = headed r in
    let s = outside area attrs groups types files in
    let t = at mode.Between place.Data [] kind d c in
    let u = at mode.Between place.Data [] kind r c in
    after s u _ (statement_head lettering kind r ++ data_lines lettering (line_count r.datum) r.datum) (codes "};\n\n")
    (after s t _ (statement_head lettering kind r) (data_lines lettering (line_count r.datum) r.datum)
    (head_run lettering kind r c small limits bytes) (data_run lettering r.datum kind d c bytes.datum))
    (statement_closes kind r area attrs groups types files)

-- resources of a type, each put where it belongs
abbrev pub with_all : ℕ → List Ref → List Group → List Group
with_all kind [] groups = groups
with_all kind (r ∷ refs) groups = with_all kind refs (with_ref kind r groups)

abbrev pub with_groups : List Group → List Group → List Group
with_groups [] groups = groups
with_groups (g ∷ more) groups = with_groups more (with_all g.kind g.refs groups)

pub refs_run : (lettering : Lettering) (refs : List Ref) (kind : ℕ) (area : List ℕ) (attrs : ℕ) (groups : List Group)
    (types : List Declared) (files : Files) → kind < 2 ^ 32 → AllByRecursion IsRef refs → AllByRecursion HasBytes refs
    → run (Ok (outside area attrs groups types files)) (flat_map (statement lettering kind) refs)
    ≡ Ok (outside area attrs (with_all kind refs groups) types files)
refs_run lettering [] kind area attrs groups types files small limits bytes = refl
refs_run lettering (r ∷ refs) kind area attrs groups types files small limits bytes =
    after (outside area attrs groups types files) (outside area attrs (with_ref kind r groups) types files) _ (statement lettering kind r)
    (flat_map (statement lettering kind) refs) (statement_run lettering kind r area attrs groups types files small limits.0 bytes.0)
    (refs_run lettering refs kind area attrs (with_ref kind r groups) types files small limits.1 bytes.1)

-- all statements
pub groups_run : (lettering : Lettering) (more : List Group) (area : List ℕ) (attrs : ℕ) (groups : List Group)
    (types : List Declared) (files : Files) → AllByRecursion IsGroup more
    → AllByRecursion (λ (g : Group). AllByRecursion HasBytes g.refs) more
    → run (Ok (outside area attrs groups types files)) (flat_map (group_statements lettering) more)
    ≡ Ok (outside area attrs (with_groups more groups) types files)
groups_run lettering [] area attrs groups types files limits bytes = refl
groups_run lettering (g ∷ more) area attrs groups types files limits bytes =
    after (outside area attrs groups types files) (outside area attrs (with_all g.kind g.refs groups) types files) _
    (group_statements lettering g) (flat_map (group_statements lettering) more)
    (refs_run lettering g.refs g.kind area attrs groups types files limits.0.kind limits.0.refs bytes.0)
    (groups_run lettering more area attrs (with_all g.kind g.refs groups) types files limits.1 bytes.1)
