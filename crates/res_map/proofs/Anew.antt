use Rattle.res_map.proofs.Cited.{◌≡◌, ℕ, ◌+◌, ◌<◌, ◌≤◌, List, [], ◌∷◌, ◌++◌, length, map, take, drop, Option, refl, sym, ◌∙◌, ap, arith}
use Rattle.res_map.proofs.Cited.{suc, zero, get_or, Vec, slice_set, Global, rest-next, Reference, stored_anew, all_anew, view_reference}
use Rattle.res_map.proofs.Cited.{view_bytes, view_all, StoredReference}

-- References that are stored anew.

-- they keep their types
pub kinds-anew : (all : List (Option (List ℕ))) (references : List Reference)
    → map (λ (r : Reference). r.kind) (all_anew all references) ≡ map (λ (r : Reference). r.kind) references
kinds-anew [] references = refl
kinds-anew (bytes ∷ all) [] = refl
kinds-anew (bytes ∷ all) (r ∷ references) = ap (λ l. r.kind ∷ l) (kinds-anew all references)

-- none where there are no references
anew-none : (all : List (Option (List ℕ))) → all_anew all [] ≡ []
anew-none [] = refl
anew-none (bytes ∷ all) = refl

-- the first of them, and the others
pub take-anew : (n : ℕ) (all : List (Option (List ℕ))) (references : List Reference)
    → take n (all_anew all references) ≡ all_anew (take n all) (take n references)
take-anew zero all references = refl
take-anew (suc n) [] references = refl
take-anew (suc n) (bytes ∷ all) [] = refl
take-anew (suc n) (bytes ∷ all) (r ∷ references) = ap (λ l. stored_anew bytes r ∷ l) (take-anew n all references)

pub drop-anew : (n : ℕ) (all : List (Option (List ℕ))) (references : List Reference)
    → drop n (all_anew all references) ≡ all_anew (drop n all) (drop n references)
drop-anew zero all references = refl
drop-anew (suc n) [] references = refl
drop-anew (suc n) (bytes ∷ all) [] = sym (anew-none (drop n all))
drop-anew (suc n) (bytes ∷ all) (r ∷ references) = drop-anew n all references

anew : (g f : Option (Vec ℕ Global)) (x r : StoredReference) → g ≡ f → x ≡ r
    → stored_anew (view_bytes g) (view_reference x) ≡ stored_anew (view_bytes f) (view_reference r)
anew g f x r p q = ap (λ o. stored_anew (view_bytes o) (view_reference x)) p
    ∙ ap (λ (s : StoredReference). stored_anew (view_bytes f) (view_reference s)) q

-- one of them is stored in its place, and nothing is left of what was given for it
put-next : (refs : List StoredReference) (given : List (Option (Vec ℕ Global))) (i : ℕ) (x y : StoredReference)
    (g h : Option (Vec ℕ Global)) → i < length refs → i < length given → x ≡ get_or refs i x → g ≡ get_or given i g
    → view_reference y ≡ stored_anew (view_bytes g) (view_reference x)
    → map view_reference (take (suc i) (slice_set refs i y))
    ++ all_anew (view_all (drop (suc i) (slice_set given i h))) (map view_reference (drop (suc i) (slice_set refs i y)))
    ≡ map view_reference (take i refs) ++ all_anew (view_all (drop i given)) (map view_reference (drop i refs))
put-next [] given i x y g h inside given_too is found stored = absurd (omega arith)
put-next (r ∷ refs) [] i x y g h inside given_too is found stored = absurd (omega arith)
put-next (r ∷ refs) (f ∷ given) zero x y g h inside given_too is found stored =
    let here : view_reference y ≡ stored_anew (view_bytes f) (view_reference r) = stored ∙ anew g f x r found is in
    ap (λ e. e ∷ all_anew (view_all given) (map view_reference refs)) here
put-next (r ∷ refs) (f ∷ given) (suc i) x y g h inside given_too is found stored =
    ap (λ l. view_reference r ∷ l) (put-next refs given i x y g h (omega arith) (omega arith) is found stored)

pub put_on : (refs : List StoredReference) (given : List (Option (Vec ℕ Global))) (i : ℕ)
    (x y : StoredReference) (g h : Option (Vec ℕ Global)) (all : List Reference) → i < length refs
    → length given ≡ length refs → x ≡ get_or refs i x → g ≡ get_or given i g
    → view_reference y ≡ stored_anew (view_bytes g) (view_reference x)
    → map view_reference (take i refs) ++ all_anew (view_all (drop i given)) (map view_reference (drop i refs)) ≡ all
    → map view_reference (take (i + 1) (slice_set refs i y))
    ++ all_anew (view_all (drop (i + 1) (slice_set given i h))) (map view_reference (drop (i + 1) (slice_set refs i y)))
    ≡ all
put_on refs given i x y g h all inside long is found stored e =
    let next : i + 1 ≡ suc i = omega arith in
    rw next (put-next refs given i x y g h inside (omega arith) is found stored ∙ e)

-- all of them are stored
pub put_all : (refs : List StoredReference) (given : List (Option (Vec ℕ Global))) (i : ℕ) (all : List Reference)
    → length refs ≤ i
    → map view_reference (take i refs) ++ all_anew (view_all (drop i given)) (map view_reference (drop i refs)) ≡ all
    → map view_reference refs ≡ all
put_all refs given i all inside e = ends refs given i inside ∙ e
  where
    drop_none : (i : ℕ) → drop {A = Option (Vec ℕ Global)} i [] ≡ []
    drop_none zero = refl
    drop_none (suc i) = refl

    ends : (refs : List StoredReference) (given : List (Option (Vec ℕ Global))) (i : ℕ) → length refs ≤ i
        → map view_reference refs
        ≡ map view_reference (take i refs) ++ all_anew (view_all (drop i given)) (map view_reference (drop i refs))
    ends [] given zero inside = sym (anew-none (view_all given))
    ends [] given (suc i) inside = sym (anew-none (view_all (drop (suc i) given)))
    ends (r ∷ refs) given zero inside = absurd (omega arith)
    ends (r ∷ refs) [] (suc i) inside =
        ap (λ l. view_reference r ∷ l) (ends refs [] i (omega arith) ∙ ap (λ l. map view_reference (take i refs)
        ++ all_anew (view_all l) (map view_reference (drop i refs))) (drop_none i))
    ends (r ∷ refs) (g ∷ given) (suc i) inside = ap (λ l. view_reference r ∷ l) (ends refs given i (omega arith))

-- what is stored of them, one after another
pub stored_on : (refs : List StoredReference) (given : List (Option (Vec ℕ Global))) (i : ℕ) (x : StoredReference)
    (g : Option (Vec ℕ Global)) → i < length refs → i < length given → x ≡ get_or refs i x → g ≡ get_or given i g
    → map (λ (r : Reference). r.stored) (all_anew (view_all (drop i given)) (map view_reference (drop i refs)))
    ≡ (stored_anew (view_bytes g) (view_reference x)).stored
    ∷ map (λ (r : Reference). r.stored)
    (all_anew (view_all (drop (i + 1) given)) (map view_reference (drop (i + 1) refs)))
stored_on refs given i x g inside given_too is found =
    ap (λ l. map (λ (r : Reference). r.stored) (all_anew (view_all l) (map view_reference (drop i refs))))
    (rest-next given i g given_too found)
    ∙ ap (λ l. map (λ (r : Reference). r.stored) (all_anew (view_bytes g ∷ view_all (drop (i + 1) given))
    (map view_reference l))) (rest-next refs i x inside is)
