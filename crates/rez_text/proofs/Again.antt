-- What is printed is read again.
use Rattle.rez_text.proofs.Cited.{◌≡◌, ℕ, zero, suc, true, Ok, List, [], ◌++◌, map, length, drop, replicate, refl, ap, ◌∙◌, list_all}
use Rattle.rez_text.proofs.Cited.{flat_map, Charset, Group, Content, IsContent, are_distinct, clear, has_refs, Declared, Lettering, Plain}
use Rattle.rez_text.proofs.Cited.{Files, unnamed, start, step, between, IsOfBytes, finish, first_line, unless_lacking, stated, read_roman}
use Rattle.rez_text.proofs.Cited.{read, source_of, lettered_source, attributes_remark, area_remark, group_statements}
use Rattle.rez_text.specs.declared.mode.Place.TheVariants as place
use Rattle.rez_text.proofs.Plain.{read_plainly, source_opens}
use Rattle.rez_text.proofs.Steps.{run, after, read_run}
use Rattle.rez_text.proofs.Statements.{outside, groups_run}
use Rattle.rez_text.proofs.Remarked.{attributes_remark_run, area_remark_run}
use Rattle.rez_text.proofs.Joined.{groups_again}

pub finished : (area : List ℕ) (attrs : ℕ) (groups : List Group) (types : List Declared) (files : Files)
    → finish (outside area attrs groups types files) ≡ Ok (outside area attrs groups types files)
unfolding finish step between
finished area attrs groups types files = refl

none_lacking : (n : ℕ) (c : Content) → unless_lacking (drop n []) c ≡ Ok c
none_lacking zero c = refl
none_lacking (suc n) c = refl

-- a text of whole statements that names no file states the content to which they lead
pub stated_by_run : (types new : List Declared) (files : List (List ℕ)) (text area : List ℕ) (attrs : ℕ) (groups : List Group)
    → run (Ok (outside (replicate 240 0) 0 [] types (unnamed files))) text ≡ Ok (outside area attrs groups new (unnamed files))
    → read_roman types files text ≡ Ok (clear (record { area = area; attrs = attrs; groups = groups }))
unfolding read_roman
stated_by_run types new files text area attrs groups led =
    let s = outside area attrs groups new (unnamed files) in
    ap (stated (length files))
    (read_run text (start place.Outside types files) s s first_line led (finished area attrs groups new (unnamed files)))
    ∙ none_lacking (length files) (clear s.said.content)

-- in any lettering
pub again : (types : List Declared) (files : List (List ℕ)) (lettering : Lettering) (c : Content) → IsContent c → IsOfBytes c
    → list_all has_refs c.groups ≡ true → are_distinct (map (λ (g : Group). g.kind) c.groups) ≡ true
    → read_roman types files (lettered_source lettering c) ≡ Ok (clear c)
again types files lettering c limits bytes some distinct =
    let none = unnamed files in
    let s0 = outside (replicate 240 0) 0 [] types none in
    let s1 = outside (replicate 240 0) c.attrs [] types none in
    let s2 = outside c.area c.attrs [] types none in
    let x1 = attributes_remark c.attrs in
    let x2 = area_remark c.area in
    let x3 = flat_map (group_statements lettering) c.groups in
    let whole = after s0 s2 _ (x1 ++ x2) x3
    (after s0 s1 _ x1 x2 (attributes_remark_run c.attrs (replicate 240 0) [] types none limits.attrs)
    (area_remark_run c.area c.attrs [] types none bytes.area limits.area))
    (groups_run lettering c.groups c.area c.attrs [] types none limits.groups bytes.refs
    ∙ ap (λ l. Ok (outside c.area c.attrs l types none)) (groups_again c.groups some distinct)) in
    stated_by_run types types files (x1 ++ x2 ++ x3) c.area c.attrs c.groups whole

pub source_again : (types : List Declared) (files : List (List ℕ)) (set : Charset) (c : Content) → IsContent c → IsOfBytes c
    → list_all has_refs c.groups ≡ true → are_distinct (map (λ (g : Group). g.kind) c.groups) ≡ true
    → read types files (source_of set c) ≡ Ok (clear c)
unfolding source_of
source_again types files set c limits bytes some distinct =
    read_plainly types files (lettered_source (Plain set) c) (source_opens (Plain set) c)
    ∙ again types files (Plain set) c limits bytes some distinct

-- of a content as a fork has it nothing is lost
pub same_again : (types : List Declared) (files : List (List ℕ)) (set : Charset) (c : Content) → IsContent c → IsOfBytes c
    → list_all has_refs c.groups ≡ true → are_distinct (map (λ (g : Group). g.kind) c.groups) ≡ true → clear c ≡ c
    → read types files (source_of set c) ≡ Ok c
same_again types files set c limits bytes some distinct is =
    source_again types files set c limits bytes some distinct ∙ ap Ok is
