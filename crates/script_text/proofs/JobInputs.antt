-- What holds of a job's inputs, of which each may follow those above it.
use Rattle.script_text.proofs.Cited.{◌≡◌, ℕ, suc, zero, ◌+◌, ◌≤◌, ◌<◌, Bool, true, false, cond, List, [], ◌∷◌, ◌++◌, length, take, inl, inr}
use Rattle.script_text.proofs.Cited.{drop, Some, None, is_some, refl, sym, ap, subst, ◌∙◌, arith, ◌&&◌, ◌||◌, ◌==◌, nat_lt, not, bytes_eq}
use Rattle.script_text.proofs.Cited.{IsTrue, IsEquivalence, decided, IsDistinct, list_any, filter_map, cons_option, position_from}
use Rattle.script_text.proofs.Cited.{and_parts, cases_lt, ltb-true, eqb-true, eq-eqb, not-true, append-nil, length-append, length_push}
use Rattle.script_text.proofs.Cited.{filter_map-append, IsDistinct-push, bytes_eq-Decides, Input, System, App, File, app_name, app_names}
use Rattle.script_text.proofs.Cited.{file_name, given_names, file_names, has_name, may_follow, all_follow, AreInOrder, AreApps, AreFiles}
use Rattle.std.proofs.lemmas.List.{append_assoc}

-- bytes are compared as equals are
same_bytes : IsEquivalence bytes_eq
same_bytes = decided bytes_eq bytes_eq-Decides

-- a name that is found is among the names
pub found_among : {X : Type 0} (test : X → Bool) (i : ℕ) (xs : List X)
    → is_some (position_from test i xs) ≡ list_any test xs
found_among test i [] = refl
found_among test i (x ∷ xs) = cases (test x) (found_among test (i + 1) xs)
  where
    cases : (t : Bool) → is_some (position_from test (i + 1) xs) ≡ list_any test xs
        → is_some (cond t (Some i) (position_from test (i + 1) xs)) ≡ (t || list_any test xs)
    cases true e = refl
    cases false e = e

-- the names of all applications, once there is one more input
pub names_added : (above : List Input) (i : Input) (names : List (List ℕ))
    → filter_map app_name (i ∷ []) ≡ names → app_names (above ++ i ∷ []) ≡ app_names above ++ names
names_added above i names e = filter_map-append app_name above (i ∷ []) ∙ ap (λ ns. app_names above ++ ns) e

-- the names of the files that are given to an application, once there is one more input
pub given_added : (n : ℕ) (above : List Input) (i : Input) (names : List (List ℕ))
    → filter_map (file_name n) (i ∷ []) ≡ names → given_names n (above ++ i ∷ []) ≡ given_names n above ++ names
given_added n above i names e =
    filter_map-append (file_name n) above (i ∷ []) ∙ ap (λ ns. given_names n above ++ ns) e

-- one more input may follow
pub follow_added : (above xs : List Input) (i : Input)
    → all_follow above (xs ++ i ∷ []) ≡ (all_follow above xs && may_follow (above ++ xs) i)
follow_added above [] i = rw (append-nil above) (cases (may_follow above i))
  where
    cases : (t : Bool) → (t && true) ≡ t
    cases true = refl
    cases false = refl
follow_added above (x ∷ xs) i =
    rw (follow_added (above ++ x ∷ []) xs i, append_assoc above (x ∷ []) xs)
    (cases (may_follow above x) (all_follow (above ++ x ∷ []) xs) (may_follow (above ++ x ∷ xs) i))
  where
    cases : (s t u : Bool) → (s && (t && u)) ≡ (s && t && u)
    cases true t u = refl
    cases false t u = refl

-- what holds of some inputs, and stays as one that may follow is added, holds of all
kept : {P : List Input → Type 0} → ((above : List Input) (i : Input) → P above → IsTrue (may_follow above i)
    → P (above ++ i ∷ [])) → (above xs : List Input) → P above → IsTrue (all_follow above xs) → P (above ++ xs)
kept {P} step above [] p h = subst P (sym (append-nil above)) p
kept {P} step above (x ∷ xs) p h =
    let parts = and_parts (may_follow above x) (all_follow (above ++ x ∷ []) xs) h in
    subst P (append_assoc above (x ∷ []) xs)
    (kept {P = P} step (above ++ x ∷ []) xs (step above x p parts.0) parts.1)

-- one more input that is no application
pub same_names : (above : List Input) (i : Input) → app_name i ≡ None → app_names (above ++ i ∷ []) ≡ app_names above
same_names above i e = names_added above i [] (ap (λ o. cons_option o []) e) ∙ append-nil (app_names above)

-- 64 applications at most, of names that differ
apps_added : (above : List Input) (i : Input) → AreApps above → IsTrue (may_follow above i)
    → AreApps (above ++ i ∷ [])
apps_added above (System path) apps h =
    let same = same_names above (System path) refl in
    record { most = rw same apps.most; apart = rw same apps.apart }
apps_added above (File app name path) apps h =
    let same = same_names above (File app name path) refl in
    record { most = rw same apps.most; apart = rw same apps.apart }
apps_added above (App name fork script) apps h =
    let more = names_added above (App name fork script) (name ∷ []) refl in
    let parts = and_parts (nat_lt (length (app_names above)) 64) (not (has_name name (app_names above))) h in
    let room = ltb-true (length (app_names above)) 64 parts.0 in
    let longer = length_push (app_names above) name in
    record {
      most = rw (more, longer) (omega (arith, room));
      apart = rw more (IsDistinct-push same_bytes (app_names above) name apps.apart (not-true _ parts.1));
    }

-- no applications
no_apps : AreApps []
unfolding IsDistinct
no_apps = record { most = omega arith; apart = tt }

-- inputs of which each may follow those before it have 64 applications at most, of names that differ
pub apps_in_order : (inputs : List Input) → AreInOrder inputs → AreApps inputs
apps_in_order inputs h = kept {P = AreApps} apps_added [] inputs no_apps h

-- the files of an application: 256 at most, of names that differ, and none of one that isn't there
record FiledAt (n : ℕ) (inputs : List Input) : Type 0 where
  most : length (file_names n inputs) ≤ 256
  apart : IsDistinct bytes_eq (file_names n inputs)
  absent : length (app_names inputs) ≤ n → given_names n inputs ≡ []

-- one name at most is apart from all others
one_apart : (xs : List (List ℕ)) → IsDistinct bytes_eq (take 1 xs)
unfolding IsDistinct
one_apart [] = tt
one_apart (x ∷ xs) = (tt, tt)

-- one at most
one_at_most : (xs : List (List ℕ)) → length (take 1 xs) ≤ 1
one_at_most [] = omega arith
one_at_most (x ∷ xs) = omega arith

-- a name that is there stays once there is one more
own_name_stays : (n : ℕ) (names : List (List ℕ)) (name : List ℕ) → n < length names
    → take 1 (drop n (names ++ name ∷ [])) ≡ take 1 (drop n names)
own_name_stays n [] name l = let no : ⊥ = omega (arith, l) in absurd no
own_name_stays zero (x ∷ names) name l = refl
own_name_stays (suc n) (x ∷ names) name l = own_name_stays n names name (omega (arith, l))

-- the files of an application, by the names of all and those that are given to it
files_of : (n : ℕ) (inputs : List Input) (names given : List (List ℕ)) → app_names inputs ≡ names
    → given_names n inputs ≡ given → file_names n inputs ≡ take 1 (drop n names) ++ given
files_of n inputs names given e g = rw (e, g) refl

-- an input that is no application, and gives this one nothing
filed_same : (n : ℕ) (above : List Input) (i : Input) → app_name i ≡ None → file_name n i ≡ None → FiledAt n above
    → FiledAt n (above ++ i ∷ [])
filed_same n above i e g at =
    let names = same_names above i e in
    let given : given_names n (above ++ i ∷ []) ≡ given_names n above
    = given_added n above i [] (ap (λ o. cons_option o []) g) ∙ append-nil (given_names n above) in
    let files = files_of n (above ++ i ∷ []) (app_names above) (given_names n above) names given in
    record {
      most = rw files at.most;
      apart = rw files at.apart;
      absent = λ l. given ∙ at.absent (subst (λ ns. length ns ≤ n) names l);
    }

-- one more file of this application
filed_one : (n : ℕ) (above : List Input) (name path : List ℕ) → FiledAt n above
    → IsTrue (may_follow above (File n name path)) → FiledAt n (above ++ File n name path ∷ [])
filed_one n above name path at h =
    let parts = and_parts (nat_lt n (length (app_names above)))
    (nat_lt (length (given_names n above)) 255 && not (has_name name (file_names n above))) h in
    let others = and_parts (nat_lt (length (given_names n above)) 255) (not (has_name name (file_names n above)))
    parts.1 in
    let there = ltb-true n (length (app_names above)) parts.0 in
    let room = ltb-true (length (given_names n above)) 255 others.0 in
    let own = take 1 (drop n (app_names above)) in
    let names = same_names above (File n name path) refl in
    let given = given_added n above (File n name path) (name ∷ [])
    (ap (λ t. cons_option (cond t (Some name) None) []) (eq-eqb n n refl)) in
    let files : file_names n (above ++ File n name path ∷ []) ≡ file_names n above ++ name ∷ []
    = files_of n (above ++ File n name path ∷ []) (app_names above) (given_names n above ++ name ∷ []) names given
    ∙ sym (append_assoc own (given_names n above) (name ∷ [])) in
    let one = one_at_most (drop n (app_names above)) in
    let length_one = length_push (file_names n above) name in
    let length_two = length-append own (given_names n above) in
    record {
      most = rw (files, length_one, length_two) (omega (arith, one, room));
      apart = rw files (IsDistinct-push same_bytes (file_names n above) name at.apart (not-true _ others.1));
      absent = λ l. let no : ⊥ = omega (arith, there, subst (λ ns. length ns ≤ n) names l) in absurd no;
    }

-- one more application
filed_app : (n : ℕ) (above : List Input) (name fork script : List ℕ) → FiledAt n above
    → FiledAt n (above ++ App name fork script ∷ [])
filed_app n above name fork script at =
    let names = names_added above (App name fork script) (name ∷ []) refl in
    let given : given_names n (above ++ App name fork script ∷ []) ≡ given_names n above
    = given_added n above (App name fork script) [] refl ∙ append-nil (given_names n above) in
    let files = files_of n (above ++ App name fork script ∷ []) (app_names above ++ name ∷ []) (given_names n above)
    names given in
    let longer = length_push (app_names above) name in
    elim (cases_lt n (length (app_names above))) [
      | inl l ↦
          let same = files ∙ ap (λ own. own ++ given_names n above) (own_name_stays n (app_names above) name l) in
          record {
            most = rw same at.most;
            apart = rw same at.apart;
            absent = λ m.
                let no : ⊥ = omega (arith, l, longer, subst (λ ns. length ns ≤ n) names m) in absurd no;
          }
      | inr m ↦
          let own = take 1 (drop n (app_names above ++ name ∷ [])) in
          let alone : file_names n (above ++ App name fork script ∷ []) ≡ own
          = files ∙ ap (λ ns. own ++ ns) (at.absent m) ∙ append-nil own in
          let one = one_at_most (drop n (app_names above ++ name ∷ [])) in
          record {
            most = rw alone (omega (arith, one));
            apart = rw alone (one_apart (drop n (app_names above ++ name ∷ [])));
            absent = λ _. given ∙ at.absent m;
          }
    ]

-- one more input
filed_added : (n : ℕ) (above : List Input) (i : Input) → FiledAt n above → IsTrue (may_follow above i)
    → FiledAt n (above ++ i ∷ [])
filed_added n above (System path) at h = filed_same n above (System path) refl refl at
filed_added n above (App name fork script) at h = filed_app n above name fork script at
filed_added n above (File app name path) at h = cases (app == n) refl
  where
    cases : (t : Bool) → (app == n) ≡ t → FiledAt n (above ++ File app name path ∷ [])
    cases false e =
        filed_same n above (File app name path) refl (ap (λ t. cond t (Some name) None) e) at
    cases true e =
        let same = eqb-true app n e in
        subst (λ m. FiledAt n (above ++ File m name path ∷ [])) (sym same)
        (filed_one n above name path at (subst (λ m. IsTrue (may_follow above (File m name path))) same h))

-- no files
no_files : (n : ℕ) → FiledAt n []
unfolding IsDistinct
no_files zero = record { most = omega arith; apart = tt; absent = λ l. refl }
no_files (suc n) = record { most = omega arith; apart = tt; absent = λ l. refl }

-- inputs of which each may follow those before it have 256 files of each application at most, of names that differ
pub files_in_order : (inputs : List Input) → AreInOrder inputs → AreFiles inputs
files_in_order inputs h = record { most = λ n. (filed n).most; apart = λ n. (filed n).apart }
  where
    filed : (n : ℕ) → FiledAt n inputs
    filed n = kept {P = FiledAt n} (filed_added n) [] inputs (no_files n) h
