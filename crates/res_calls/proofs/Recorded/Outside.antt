use Rattle.res_calls.proofs.Cited.{◌≡◌, List, ◌∷◌, ◌++◌, map, sym, ◌∙◌, ap, Option, None, refl, ℕ, map-append, Split, replaced, Reference}
use Rattle.res_calls.proofs.Cited.{with_handle, OpenFile, Found, with_reference, without_handles}
use Rattle.res_calls.proofs.Owning.Places.{Stands, same-there}

-- What is recorded of resources, where a reference gets another handle.

-- an item in the place of one that looks the same
replaced-map : {A B : Type 0} (f : A → B) (x y : A) (at : Split A) → f x ≡ f y
    → map f (replaced x at) ≡ map f (replaced y at)
replaced-map f x y at same =
    map-append f at.before (x ∷ at.after) ∙ ap (λ z. map f at.before ++ (z ∷ map f at.after)) same
    ∙ sym (map-append f at.before (y ∷ at.after))

-- the file of a reference, with these references
abbrev pub file_with : Found → List Reference → OpenFile
file_with at references = record at.file.here { map = record at.file.here.map { references = references } }

-- another reference that differs in its handle alone
pub outside-reference : (chain : List OpenFile) (at : Found) (x : Reference) → Stands chain at
    → with_handle None x ≡ with_handle None at.reference.here
    → map without_handles (with_reference x at) ≡ map without_handles chain
outside-reference chain at x stands same =
    replaced-map without_handles (file_with at (replaced x at.reference))
    (file_with at (replaced at.reference.here at.reference)) at.file
    (ap (file_with at) (replaced-map (with_handle None) x at.reference.here at.reference same))
    ∙ ap (map without_handles) (same-there chain at stands)

-- a handle that is given or taken away
pub outside-handle : (chain : List OpenFile) (at : Found) (handle : Option ℕ) → Stands chain at
    → map without_handles (with_reference (record at.reference.here { handle = handle }) at)
    ≡ map without_handles chain
outside-handle chain at handle stands =
    outside-reference chain at (record at.reference.here { handle = handle }) stands refl
