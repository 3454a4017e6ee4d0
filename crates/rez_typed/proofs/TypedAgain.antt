-- What is printed with typed statements is read again.
use Rattle.rez_typed.proofs.Cited.{◌≡◌, Bool, true, false, ℕ, Ok, List, [], ◌∷◌, ◌++◌, map, replicate, refl, ap, ◌∙◌, if◌then◌else◌}
use Rattle.rez_typed.proofs.Cited.{and_parts, ltb-true, list_all, flat_map, from_roman, Group, Content, IsContent, are_distinct, clear}
use Rattle.rez_typed.proofs.Cited.{has_refs, Declared, AreBytes, IsOfBytes, coding_comment, unnamed, read, read_roman, attributes_remark}
use Rattle.rez_typed.proofs.Cited.{area_remark, stated_by_run, after, outside, attributes_remark_run, area_remark_run, groups_again}
use Rattle.rez_typed.proofs.Cited.{opens_plainly, read_plainly, read_coded, Coding, SourceStyle, is_byte, coded, typed_bytes, typed_source}
use Rattle.rez_typed.proofs.Cited.{typed_group}
use Rattle.rez_typed.specs.declared.style.Coding.TheVariants as coding
use Rattle.rez_typed.proofs.Runs.{typed_groups_led}
use Rattle.rez_typed.proofs.Plain.{bytes_open_plainly}

-- the text as bytes
bytes_again : (types tried : List Declared) (files : List (List ℕ)) (style : SourceStyle) (c : Content) → IsContent c → IsOfBytes c
    → list_all has_refs c.groups ≡ true → are_distinct (map (λ (g : Group). g.kind) c.groups) ≡ true
    → read_roman types files (typed_bytes style tried c) ≡ Ok (clear c)
unfolding typed_bytes
bytes_again types tried files style c limits bytes some distinct =
    let none = unnamed files in
    let s0 = outside (replicate 240 0) 0 [] types none in
    let s1 = outside (replicate 240 0) c.attrs [] types none in
    let s2 = outside c.area c.attrs [] types none in
    let x1 = attributes_remark c.attrs in
    let x2 = area_remark c.area in
    let x3 = flat_map (typed_group style tried) c.groups in
    let all = typed_groups_led style tried c.groups c.area c.attrs [] types none limits.groups bytes.refs in
    let whole = after s0 s2 _ (x1 ++ x2) x3
    (after s0 s1 _ x1 x2 (attributes_remark_run c.attrs (replicate 240 0) [] types none limits.attrs)
    (area_remark_run c.area c.attrs [] types none bytes.area limits.area))
    (all.led ∙ ap (λ l. Ok (outside c.area c.attrs l all.types none)) (groups_again c.groups some distinct)) in
    stated_by_run types all.types files (x1 ++ x2 ++ x3) c.area c.attrs c.groups whole

-- numbers that are all bytes
all_bytes : (text : List ℕ) → list_all is_byte text ≡ true → AreBytes text
all_bytes [] h = tt
all_bytes (b ∷ text) h =
    let parts = and_parts (is_byte b) (list_all is_byte text) h in
    (ltb-true b 256 parts.0, all_bytes text parts.1)

-- a text in a coding is read as its bytes are
coded_again : (types : List Declared) (files : List (List ℕ)) (way : Coding) (text : List ℕ) (c : Content)
    → opens_plainly text ≡ true → read_roman types files text ≡ Ok c → read types files (coded way text) ≡ Ok c
coded_again types files (coding.Bytes charset) text c plain is = read_plainly types files text plain ∙ is
coded_again types files coding.Utf8 text c plain is =
    let go : (v : Bool) → list_all is_byte text ≡ v
    → read types files (if v then coding_comment ++ from_roman text else text) ≡ Ok c =
    λ v. elim v as (λ v. list_all is_byte text ≡ v → read types files (if v then coding_comment ++ from_roman text else text) ≡ Ok c) [
      | true ↦ λ h. read_coded types files text c (all_bytes text h) is
      | false ↦ λ h. read_plainly types files text plain ∙ is
    ] in
    go (list_all is_byte text) refl

pub typed_again : (types tried : List Declared) (files : List (List ℕ)) (style : SourceStyle) (c : Content) → IsContent c → IsOfBytes c
    → list_all has_refs c.groups ≡ true → are_distinct (map (λ (g : Group). g.kind) c.groups) ≡ true
    → read types files (typed_source style tried c) ≡ Ok (clear c)
unfolding typed_source
typed_again types tried files style c limits bytes some distinct =
    coded_again types files style.coding (typed_bytes style tried c) (clear c) (bytes_open_plainly style tried c)
    (bytes_again types tried files style c limits bytes some distinct)

-- of a content as a fork has it nothing is lost
pub typed_same_again : (types tried : List Declared) (files : List (List ℕ)) (style : SourceStyle) (c : Content)
    → IsContent c → IsOfBytes c → list_all has_refs c.groups ≡ true → are_distinct (map (λ (g : Group). g.kind) c.groups) ≡ true
    → clear c ≡ c → read types files (typed_source style tried c) ≡ Ok c
typed_same_again types tried files style c limits bytes some distinct is =
    typed_again types tried files style c limits bytes some distinct ∙ ap Ok is
