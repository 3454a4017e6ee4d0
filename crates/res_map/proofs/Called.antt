use Rattle.res_map.proofs.Cited.{◌≡◌, ◌∙◌, refl, sym, ap, ℕ, ℤ, zero, suc, ◌+◌, arith, Bool, true, false, ◌&&◌, List, [], ◌∷◌, drop, Option}
use Rattle.res_map.proofs.Cited.{Some, None, option_map, ◌==◌, ◌%◌, str_to_ascii_lowercase, cast_signed, Decides-int_eq, bytes_eq-Decides}
use Rattle.res_map.proofs.Cited.{Row, print, with_bytes, Reference, is_named, same_name, IsIndex, first_place, place_in, is_printed}
use Rattle.res_map.proofs.Cited.{has_print}
use Rattle.std.specs.Int.{w32}
use Rattle.res_map.proofs.Places.{first-cons, one_on}

-- A name is found by its print.

-- names that match have one print
print-same : (text name : List ℕ) → str_to_ascii_lowercase name ≡ str_to_ascii_lowercase text → print name ≡ print text
unfolding print
print-same text name e = ap (λ l. cast_signed w32 (with_bytes 0 l % 4294967296)) e

printed-name : (text : List ℕ) (o : Option (List ℕ)) → same_name text o ≡ true → has_print (print text) o ≡ true
printed-name text None e = cc
printed-name text (Some name) e =
    (Decides-int_eq (print name) (print text)).1
    (print-same text name ((bytes_eq-Decides (str_to_ascii_lowercase name) (str_to_ascii_lowercase text)).0 e))

-- a reference that does not pass by its print does not pass by its name
not-named : (kind : ℕ) (text : List ℕ) (r : Reference) → is_printed kind (print text) r ≡ false
    → is_named kind text r ≡ false
not-named kind text r e = cases (r.kind == kind) (same_name text r.stored.name) (has_print (print text) r.stored.name)
    (printed-name text r.stored.name) e
  where
    cases : (t u v : Bool) → (u ≡ true → v ≡ true) → t && v ≡ false → t && u ≡ false
    cases false u v then e = refl
    cases true false v then e = refl
    cases true true v then e = let no : v ≡ true = then refl in cc

-- none that passes a test passes another that says less
none-passes : {A : Type 0} (less more : A → Bool) → ((x : A) → more x ≡ false → less x ≡ false) → (xs : List A)
    → first_place more xs ≡ None → first_place less xs ≡ None
none-passes less more then [] e = refl
none-passes less more then (x ∷ xs) e =
    first-cons less x xs
    ∙ cases (more x) (less x) (first_place more xs) (first_place less xs) (then x) (none-passes less more then xs)
    (sym (first-cons more x xs) ∙ e)
  where
    cases : (t u : Bool) (o p : Option ℕ) → (t ≡ false → u ≡ false) → (o ≡ None → p ≡ None) → one_on t o ≡ None
        → one_on u p ≡ None
    cases true u o p then rest e = cc
    cases false true o p then rest e = let no : true ≡ false = then refl in cc
    cases false false None p then rest e = ap (option_map suc) (rest refl)
    cases false false (Some n) p then rest e = cc

-- what passes the one is found from the first on that passes the other
found-from : {A : Type 0} (less more : A → Bool) → ((x : A) → more x ≡ false → less x ≡ false) → (xs : List A) (n : ℕ)
    → first_place more xs ≡ Some n → option_map (λ m. n + m) (first_place less (drop n xs)) ≡ first_place less xs
found-from less more then [] n e = cc
found-from less more then (x ∷ xs) zero e = same (first_place less (x ∷ xs))
  where
    same : (o : Option ℕ) → option_map (λ m. 0 + m) o ≡ o
    same None = refl
    same (Some m) = let e : 0 + m ≡ m = omega arith in ap Some e
found-from less more then (x ∷ xs) (suc n) e =
    on (first_place less (drop n xs))
    ∙ ap (option_map suc) (found-from less more then xs n
    (behind (more x) (first_place more xs) (sym (first-cons more x xs) ∙ e)))
    ∙ sym (first-cons less x xs
    ∙ ap (λ t. one_on t (first_place less xs)) (then x (fails (more x) (first_place more xs) (sym (first-cons more x xs) ∙ e))))
  where
    on : (o : Option ℕ) → option_map (λ m. suc n + m) o ≡ option_map suc (option_map (λ m. n + m) o)
    on None = refl
    on (Some m) = let e : suc n + m ≡ suc (n + m) = omega arith in ap Some e

    fails : (t : Bool) (o : Option ℕ) → one_on t o ≡ Some (suc n) → t ≡ false
    fails true o e = cc
    fails false o e = refl

    behind : (t : Bool) (o : Option ℕ) → one_on t o ≡ Some (suc n) → o ≡ Some n
    behind true o e = cc
    behind false None e = cc
    behind false (Some m) e = cc

pub called-none : (kind : ℕ) (text : List ℕ) (references : List Reference)
    → first_place (is_printed kind (print text)) references ≡ None → None ≡ first_place (is_named kind text) references
called-none kind text references e =
    sym (none-passes (is_named kind text) (is_printed kind (print text)) (not-named kind text) references e)

pub called-from : (kind : ℕ) (text : List ℕ) (references : List Reference) (n : ℕ)
    → first_place (is_printed kind (print text)) references ≡ Some n
    → option_map (λ m. n + m) (first_place (is_named kind text) (drop n references))
    ≡ first_place (is_named kind text) references
called-from kind text references n e =
    found-from (is_named kind text) (is_printed kind (print text)) (not-named kind text) references n e

-- what the index tells of the print of a text
pub told-print : (kind : ℕ) (text : List ℕ) (rows : List Row) (references : List Reference) (key seen : ℤ)
    (told : Option ℕ) → key ≡ print text → seen ≡ key → told ≡ place_in kind seen rows
    → IsIndex is_printed rows references → first_place (is_printed kind (print text)) references ≡ told
told-print kind text rows references key seen told is same from index =
    sym (from ∙ ap (λ i. place_in kind i rows) (same ∙ is) ∙ index.tells kind (print text))
