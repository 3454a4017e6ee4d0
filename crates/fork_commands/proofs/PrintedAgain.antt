use Rattle.fork_commands.proofs.Cited.{◌≡◌, ◌∙◌, ℕ, List, Result, Ok, Err, refl, sym, ap, subst, Content, Declared, with_templates}
use Rattle.fork_commands.proofs.Cited.{same_again, AreBytes, read, typed_same_again, FileFault, SourceForm, Typed, Data, Selection}
use Rattle.fork_commands.proofs.Cited.{made_then, content_of_fork, fork_in, content_in, source_with, selected, selected_source, printed}
use Rattle.fork_commands.proofs.Cited.{StatesSelected}
use Rattle.fork_commands.proofs.Selected.{IsRead, is_read, selected_read}

-- What is printed of a fork is read again.

-- A form whose source of a content that was read is read again as the content.
abbrev IsAgain : SourceForm → Type 0
IsAgain form = (types tried : List Declared) (files : List (List ℕ)) (whole c : Content) → IsRead c
    → read types files (source_with form tried whole c) ≡ Ok c

pub printed_again : (form : SourceForm) (s : Selection) (tried : List Declared) → IsAgain form → (bytes fork text : List ℕ)
    → fork_in bytes ≡ Ok fork → AreBytes fork → printed form s tried bytes ≡ Ok text → StatesSelected s bytes text
printed_again form s tried again bytes fork text found are made = λ types files c selects.
    cases types files c selects (content_of_fork fork) refl
  where
    cases : (types : List Declared) (files : List (List ℕ)) (c : Content) → made_then (content_in bytes) (selected s) ≡ Ok c
        → (r : Result Content FileFault) → content_of_fork fork ≡ r → read types files text ≡ Ok c
    cases types files c selects (Err fault) e =
        let has : content_in bytes ≡ Err fault = rw found e in
        let none : Err fault ≡ Ok text = sym (ap (λ r. made_then r (selected_source form s tried)) has) ∙ made in
        absurd (let no : Err fault ≡ Ok text = none in cc)
    cases types files c selects (Ok whole) e =
        let has : content_in bytes ≡ Ok whole = rw found e in
        let chosen : selected s whole ≡ Ok c = sym (ap (λ r. made_then r (selected s)) has) ∙ selects in
        let prints : selected_source form s tried whole ≡ Ok text =
        sym (ap (λ r. made_then r (selected_source form s tried)) has) ∙ made in
        let is : Ok (source_with form tried whole c) ≡ Ok text =
        sym (ap (λ r. made_then r (λ d. Ok (source_with form tried whole d))) chosen) ∙ prints in
        let same : source_with form tried whole c ≡ text = cc in
        subst (λ t. read types files t ≡ Ok c) same
        (again types tried files whole c (selected_read s whole c (is_read fork whole are e) chosen))

pub source_again : (form : SourceForm) → IsAgain form
source_again (Typed style) types tried files whole c is =
    typed_same_again types (with_templates whole tried) files style c is.limits is.bytes is.references is.distinct is.cleared
source_again (Data charset) types tried files whole c is =
    same_again types files charset c is.limits is.bytes is.references is.distinct is.cleared
