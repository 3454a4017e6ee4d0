-- What is known of the inputs of a job, beside the inputs themselves.
use Rattle.script_text.proofs.Cited.{◌≡◌, ℕ, suc, zero, ◌<◌, Bool, true, false, cond, List, [], ◌∷◌, ◌++◌, length, take, drop, Some, None}
use Rattle.script_text.proofs.Cited.{inl, inr, get_or, map, refl, sym, ap, subst, ◌∙◌, arith, ◌&&◌, ◌||◌, ◌==◌, nat_lt, not, bytes_eq}
use Rattle.script_text.proofs.Cited.{slice_set, list_any, cons_option, and_parts, cases_lt, ltb-true, lt-ltb, le-ltb, eqb-true, eq-eqb}
use Rattle.script_text.proofs.Cited.{not-true, append-nil, length-map, map-append, list_any-append, insert_key, FileName, Input, System}
use Rattle.script_text.proofs.Cited.{App, File, is_system, app_names, file_name, given_names, file_names, has_name, may_follow, Known}
use Rattle.script_text.proofs.Cited.{KnownApp, none_known, known_names, known_files, known_with, put_name, with_file, with_file_at}
use Rattle.script_text.proofs.Cited.{may_have, may_have_at, may_join, IsKnown}
use Rattle.std.specs.Prelude.{◌≤◌}
use Rattle.script_text.proofs.JobInputs.{names_added, given_added, same_names}

-- files' names are equal where their bytes are
abbrev pub TellsFiles : (FileName → FileName → Bool) → Type 0
TellsFiles eq = (a b : FileName) → eq a b ≡ bytes_eq a.0.items b.0.items

-- the bytes of files' names
abbrev pub bytes_of : List FileName → List (List ℕ)
bytes_of names = map (λ n. n.0.items) names

-- a set has a name where it has the name's bytes
pub has_file : (eq : FileName → FileName → Bool) → TellsFiles eq → (name : FileName) (names : List FileName)
    → list_any (eq name) names ≡ has_name name.0.items (bytes_of names)
has_file eq tells name [] = refl
has_file eq tells name (n ∷ names) = rw (tells name n, has_file eq tells name names) refl

-- what a set has once a name was put into it, by the bytes of the names
pub put_file : (eq : FileName → FileName → Bool) → TellsFiles eq → (name : FileName) (names : List FileName)
    → bytes_of (insert_key eq names name) ≡ put_name name.0.items (bytes_of names)
put_file eq tells name names =
    rw (has_file eq tells name names) (cases (has_name name.0.items (bytes_of names)))
  where
    cases : (t : Bool) → bytes_of (cond t names (names ++ name ∷ []))
        ≡ cond t (bytes_of names) (bytes_of names ++ name.0.items ∷ [])
    cases true = refl
    cases false = map-append (λ n. n.0.items) names (name ∷ [])

-- neither of two is so
neither : (s t : Bool) → (s || t) ≡ false → (s ≡ false) × (t ≡ false)
neither true t h = absurd (cc)
neither false t h = (refl, h)

-- the applications have the same names once one has one more file
names_with_file : (n : ℕ) (name : List ℕ) (apps : List KnownApp)
    → known_names (with_file_at n name apps) ≡ known_names apps
names_with_file n name [] = refl
names_with_file zero name (a ∷ apps) = refl
names_with_file (suc n) name (a ∷ apps) = ap (λ names. a.name ∷ names) (names_with_file n name apps)

-- the application that has one more file
files_here : (n : ℕ) (name : List ℕ) (apps : List KnownApp) → n < length apps
    → known_files n (with_file_at n name apps) ≡ put_name name (known_files n apps)
files_here n name [] l = let no : ⊥ = omega (arith, l) in absurd no
files_here zero name (a ∷ apps) l = refl
files_here (suc n) name (a ∷ apps) l = files_here n name apps (omega (arith, l))

-- all others
files_there : (m n : ℕ) (name : List ℕ) (apps : List KnownApp) → (n ≡ m → ⊥)
    → known_files m (with_file_at n name apps) ≡ known_files m apps
files_there m n name [] apart = refl
files_there zero zero name (a ∷ apps) apart = absurd (apart refl)
files_there zero (suc n) name (a ∷ apps) apart = refl
files_there (suc m) zero name (a ∷ apps) apart = refl
files_there (suc m) (suc n) name (a ∷ apps) apart = files_there m n name apps (λ e. apart (ap suc e))

-- one more application, which has no files
files_after : (n : ℕ) (name : List ℕ) (apps : List KnownApp)
    → known_files n (apps ++ record { name = name; files = [] } ∷ []) ≡ known_files n apps
files_after zero name [] = refl
files_after (suc n) name [] = refl
files_after zero name (a ∷ apps) = refl
files_after (suc n) name (a ∷ apps) = files_after n name apps

-- the next number is below the next one
below_next : (n m : ℕ) → nat_lt (suc n) (suc m) ≡ nat_lt n m
below_next n m = elim (cases_lt n m) [
  | inl l ↦ lt-ltb (suc n) (suc m) (omega (arith, l)) ∙ sym (lt-ltb n m l)
  | inr l ↦ le-ltb (suc n) (suc m) (omega (arith, l)) ∙ sym (le-ltb n m l)
]

-- the n-th application may have one more file where it is there, has less than 255, and none of this name
may_have_is : (n : ℕ) (name : List ℕ) (apps : List KnownApp) → may_have_at n name apps
    ≡ (nat_lt n (length (known_names apps)) && (nat_lt (length (known_files n apps)) 255
    && not (has_name name (take 1 (drop n (known_names apps)) ++ known_files n apps))))
may_have_is n name [] = rw (le-ltb n 0 (omega arith)) refl
may_have_is zero name (a ∷ apps) = rw (lt-ltb 0 (length (known_names (a ∷ apps))) (omega arith)) refl
may_have_is (suc n) name (a ∷ apps) =
    rw (below_next n (length (known_names apps))) (may_have_is n name apps)

-- an application that is there
pub may_have_there : (n : ℕ) (name : List ℕ) (apps : List KnownApp) (a : KnownApp) → n < length apps
    → a ≡ get_or apps n a → may_have name a ≡ may_have_at n name apps
may_have_there n name [] a l e = let no : ⊥ = omega (arith, l) in absurd no
may_have_there zero name (b ∷ apps) a l e = ap (may_have name) e
may_have_there (suc n) name (b ∷ apps) a l e = may_have_there n name apps a (omega (arith, l)) e

-- one that isn't there may have no file
pub may_have_past : (n : ℕ) (name : List ℕ) (apps : List KnownApp) → length apps ≤ n → false ≡ may_have_at n name apps
may_have_past n name [] l = refl
may_have_past zero name (a ∷ apps) l = let no : ⊥ = omega (arith, l) in absurd no
may_have_past (suc n) name (a ∷ apps) l = may_have_past n name apps (omega (arith, l))

-- one more file is put to an application that is there
pub file_there : (n : ℕ) (name : List ℕ) (apps : List KnownApp) (a b : KnownApp) → a ≡ get_or apps n a
    → b ≡ with_file name a → slice_set apps n b ≡ with_file_at n name apps
file_there n name [] a b e more = refl
file_there zero name (x ∷ apps) a b e more = ap (λ y. y ∷ apps) (more ∙ ap (with_file name) e)
file_there (suc n) name (x ∷ apps) a b e more = ap (λ ys. x ∷ ys) (file_there n name apps a b e more)

-- one that isn't there has none
pub file_past : (n : ℕ) (name : List ℕ) (apps : List KnownApp) → length apps ≤ n → apps ≡ with_file_at n name apps
file_past n name [] l = refl
file_past zero name (a ∷ apps) l = let no : ⊥ = omega (arith, l) in absurd no
file_past (suc n) name (a ∷ apps) l = ap (λ ys. a ∷ ys) (file_past n name apps (omega (arith, l)))

-- what is known of no inputs is so
pub known_of_none : IsKnown none_known []
known_of_none = record {
  system = refl;
  names = refl;
  files = λ n. refl;
}

-- there are as many applications as are known
as_many : (known : Known) (inputs : List Input) → IsKnown known inputs → length known.apps ≡ length (app_names inputs)
as_many known inputs is = sym (length-map known.apps (λ a. a.name)) ∙ ap length is.names

-- an input may follow where what is known lets it
pub joins : (known : Known) (inputs : List Input) (i : Input) → IsKnown known inputs
    → may_join known i ≡ may_follow inputs i
joins known inputs (System path) is = ap not is.system
joins known inputs (App name fork script) is =
    rw (as_many known inputs is, is.names) refl
joins known inputs (File app name path) is =
    may_have_is app name known.apps ∙ rw (is.names, is.files app) refl

-- an input that is no System leaves whether there is one
same_system : (inputs : List Input) (i : Input) → is_system i ≡ false
    → list_any is_system (inputs ++ i ∷ []) ≡ list_any is_system inputs
same_system inputs i e = list_any-append is_system inputs (i ∷ []) ∙ rw e (cases (list_any is_system inputs))
  where
    cases : (t : Bool) → (t || false) ≡ t
    cases true = refl
    cases false = refl

-- an input that gives an application no file leaves its files
same_given : (n : ℕ) (inputs : List Input) (i : Input) → file_name n i ≡ None
    → given_names n (inputs ++ i ∷ []) ≡ given_names n inputs
same_given n inputs i e =
    given_added n inputs i [] (ap (λ o. cons_option o []) e) ∙ append-nil (given_names n inputs)

-- what is known of one more file of an application
file_known : (n app : ℕ) (known : Known) (inputs : List Input) (name path : List ℕ) → IsKnown known inputs
    → may_follow inputs (File app name path) ≡ true
    → known_files n (with_file_at app name known.apps) ≡ given_names n (inputs ++ File app name path ∷ [])
file_known n app known inputs name path is may = cases (app == n) refl
  where
    parts : (nat_lt app (length (app_names inputs)) ≡ true)
        × ((nat_lt (length (given_names app inputs)) 255 && not (has_name name (file_names app inputs))) ≡ true)
    parts = and_parts (nat_lt app (length (app_names inputs)))
        (nat_lt (length (given_names app inputs)) 255 && not (has_name name (file_names app inputs))) may

    absent : has_name name (given_names app inputs) ≡ false
    absent =
        let new = (and_parts (nat_lt (length (given_names app inputs)) 255) (not (has_name name (file_names app inputs)))
        parts.1).1 in
        let own = take 1 (drop app (app_names inputs)) in
        (neither (has_name name own) (has_name name (given_names app inputs))
        (sym (list_any-append (bytes_eq name) own (given_names app inputs)) ∙ not-true _ new)).1

    there : app < length known.apps
    there =
        let below = ltb-true app (length (app_names inputs)) parts.0 in
        omega (arith, below, as_many known inputs is)

    here : known_files app (with_file_at app name known.apps) ≡ given_names app (inputs ++ File app name path ∷ [])
    here =
        let added = given_added app inputs (File app name path) (name ∷ [])
        (ap (λ t. cons_option (cond t (Some name) None) []) (eq-eqb app app refl)) in
        files_here app name known.apps there ∙ rw (is.files app, absent) (sym added)

    cases : (t : Bool) → (app == n) ≡ t
        → known_files n (with_file_at app name known.apps) ≡ given_names n (inputs ++ File app name path ∷ [])
    cases true e = subst (λ m. known_files m (with_file_at app name known.apps)
        ≡ given_names m (inputs ++ File app name path ∷ [])) (eqb-true app n e) here
    cases false e =
        let apart : (app ≡ n → ⊥) = λ same. absurd (cc (eq-eqb app n same)) in
        let given = same_given n inputs (File app name path) (ap (λ t. cond t (Some name) None) e) in
        files_there n app name known.apps apart ∙ is.files n ∙ sym given

-- what is known of one more input, which may follow the others
pub known_more : (known : Known) (inputs : List Input) (i : Input) → IsKnown known inputs → may_follow inputs i ≡ true
    → IsKnown (known_with known i) (inputs ++ i ∷ [])
known_more known inputs (System path) is may = record {
  system = sym (list_any-append is_system inputs (System path ∷ []) ∙ cases (list_any is_system inputs));
  names = is.names ∙ sym (same_names inputs (System path) refl);
  files = λ n. is.files n ∙ sym (same_given n inputs (System path) refl);
}
  where
    cases : (t : Bool) → (t || true) ≡ true
    cases true = refl
    cases false = refl
known_more known inputs (App name fork script) is may = record {
  system = is.system ∙ sym (same_system inputs (App name fork script) refl);
  names = map-append (λ a. a.name) known.apps (record { name = name; files = [] } ∷ [])
      ∙ ap (λ names. names ++ name ∷ []) is.names ∙ sym (names_added inputs (App name fork script) (name ∷ []) refl);
  files = λ n. files_after n name known.apps ∙ is.files n ∙ sym (same_given n inputs (App name fork script) refl);
}
known_more known inputs (File app name path) is may = record {
  system = is.system ∙ sym (same_system inputs (File app name path) refl);
  names = names_with_file app name known.apps ∙ is.names ∙ sym (same_names inputs (File app name path) refl);
  files = λ n. file_known n app known inputs name path is may;
}
