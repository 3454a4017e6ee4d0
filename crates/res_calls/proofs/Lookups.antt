use Rattle.res_calls.proofs.Cited.{◌≡◌, ◌<◌, ℕ, Bool, Some, sym, ◌∙◌, ap, List, map, length, get_or, option_map, slice_get}
use Rattle.res_calls.proofs.Cited.{slice_get-get_or, slice_get-map, Split, split, place, found-place, split-get, OpenFile, references_in}
use Rattle.res_calls.proofs.Cited.{view_open}
use Rattle.res_calls.specs.declared.files.OpenFile.{OpenFile as StoredOpenFile}

-- What a place that was found says of the item there.

-- the item there, as it is seen
pub item_seen : {X A : Type 0} (view : X → A) (xs : List X) (i : ℕ) (x : X) → i < length xs → x ≡ get_or xs i x
    → slice_get (map view xs) i ≡ Some (view x)
item_seen view xs i x inside is =
    slice_get-map view xs i ∙ ap (option_map view) (slice_get-get_or xs i x inside ∙ ap Some (sym is))

pub found_seen : {X A : Type 0} (view : X → A) (test : A → Bool) (xs : List X) (i : ℕ) (x : X) → i < length xs
    → x ≡ get_or xs i x → Some i ≡ option_map place (split test (map view xs))
    → (at : Split A) × ((split test (map view xs) ≡ Some at) × ((i ≡ place at) × (at.here ≡ view x)))
found_seen view test xs i x inside is found =
    let at = found-place (split test (map view xs)) i found in
    let here : Some at.0.here ≡ Some (view x) = sym (split-get test (map view xs) at.0 at.1.0)
    ∙ ap (slice_get (map view xs)) (sym at.1.1) ∙ item_seen view xs i x inside is in
    (at.0, (at.1.0, (at.1.1, cc)))

-- the references of an open file that was found
pub references_seen : (test : OpenFile → Bool) (xs : List StoredOpenFile) (i : ℕ) (x : StoredOpenFile) → i < length xs
    → x ≡ get_or xs i x → Some i ≡ option_map place (split test (map view_open xs))
    → references_in (split test (map view_open xs)) ≡ x.map.references
references_seen test xs i x inside is found =
    let at = found_seen view_open test xs i x inside is found in
    ap references_in at.1.0 ∙ ap (λ (f : OpenFile). f.map.references) at.1.1.1
