use Rattle.res_map.proofs.Cited.{◌≡◌, ℕ, ◌+◌, ◌<◌, Bool, true, false, cond, List, [], ◌∷◌, length, map, drop, Option, Some, None, refl, sym}
use Rattle.res_map.proofs.Cited.{◌∙◌, ap, arith, get_or, option_map, filter, ◌==◌, rest-map, Split, split, behind, place, split_nth}
use Rattle.std.specs.Prelude.{◌&&◌, ◌-◌}

-- A search that goes on: what is found in the items that are left is found in all.

-- the place of what is found in the items from an index on
abbrev pub place_from : {A : Type 0} → ℕ → Option (Split A) → Option ℕ
place_from i o = option_map (λ n. i + n) (option_map place o)

-- it is the first of them
place_first : {A : Type 0} (i : ℕ) (x : A) (xs : List A)
    → place_from i (Some (let s : Split A = record { before = []; here = x; after = xs } in s)) ≡ Some i
place_first i x xs = let e : i + 0 ≡ i = omega arith in ap Some e

-- it stands behind the first of them
place_behind : {A : Type 0} (i : ℕ) (x : A) (o : Option (Split A))
    → place_from i (option_map (behind x) o) ≡ place_from (i + 1) o
place_behind i x None = refl
place_behind i x (Some at) = let e : i + length (x ∷ at.before) ≡ i + 1 + length at.before = omega arith in ap Some e

-- a search by a test, over items that are seen by a view
split_next : {A : Type 0} (test : A → Bool) (x : A) (xs : List A) (t : Bool) → test x ≡ t
    → split test (x ∷ xs) ≡ cond t (Some (record { before = []; here = x; after = xs }))
    (option_map (behind x) (split test xs))
split_next test x xs t p = rw p refl

pub found_here : {X A : Type 0} (view : X → A) (test : A → Bool) (xs : List X) (i : ℕ) (x : X) (all : Option ℕ)
    → i < length xs → x ≡ get_or xs i x → test (view x) ≡ true
    → place_from i (split test (map view (drop i xs))) ≡ all → Some i ≡ all
found_here view test xs i x all inside is passes e =
    sym (place_first i (view x) (map view (drop (i + 1) xs)))
    ∙ ap (place_from i) (sym (ap (split test) (rest-map view xs i x inside is)
    ∙ split_next test (view x) (map view (drop (i + 1) xs)) true passes)) ∙ e

pub found_on : {X A : Type 0} (view : X → A) (test : A → Bool) (xs : List X) (i : ℕ) (x : X) (all : Option ℕ)
    → i < length xs → x ≡ get_or xs i x → test (view x) ≡ false
    → place_from i (split test (map view (drop i xs))) ≡ all
    → place_from (i + 1) (split test (map view (drop (i + 1) xs))) ≡ all
found_on view test xs i x all inside is fails e =
    sym (place_behind i (view x) (split test (map view (drop (i + 1) xs))))
    ∙ ap (place_from i) (sym (ap (split test) (rest-map view xs i x inside is)
    ∙ split_next test (view x) (map view (drop (i + 1) xs)) false fails)) ∙ e

-- a search for the n-th that passes
nth_next : {A : Type 0} (n : ℕ) (test : A → Bool) (x : A) (xs : List A) (t u : Bool) → test x ≡ t → (n == 1) ≡ u
    → split_nth n test (x ∷ xs) ≡ cond (t && u) (Some (record { before = []; here = x; after = xs }))
    (option_map (behind x) (split_nth (cond t (n - 1) n) test xs))
nth_next n test x xs t u p q = rw (p, q) refl

pub nth_here : {X A : Type 0} (view : X → A) (test : A → Bool) (xs : List X) (i n : ℕ) (x : X) (all : Option ℕ)
    → i < length xs → x ≡ get_or xs i x → test (view x) ≡ true → n ≡ 1
    → place_from i (split_nth n test (map view (drop i xs))) ≡ all → Some i ≡ all
nth_here view test xs i n x all inside is passes last e =
    let one : (n == 1) ≡ true = ap (λ m. m == 1) last in
    sym (place_first i (view x) (map view (drop (i + 1) xs)))
    ∙ ap (place_from i) (sym (ap (split_nth n test) (rest-map view xs i x inside is)
    ∙ nth_next n test (view x) (map view (drop (i + 1) xs)) true true passes one)) ∙ e

pub nth_counted : {X A : Type 0} (view : X → A) (test : A → Bool) (xs : List X) (i n m : ℕ) (x : X) (all : Option ℕ)
    → i < length xs → x ≡ get_or xs i x → test (view x) ≡ true → (n == 1) ≡ false → m ≡ n - 1
    → place_from i (split_nth n test (map view (drop i xs))) ≡ all
    → place_from (i + 1) (split_nth m test (map view (drop (i + 1) xs))) ≡ all
nth_counted view test xs i n m x all inside is passes more left e =
    ap (λ k. place_from (i + 1) (split_nth k test (map view (drop (i + 1) xs)))) left
    ∙ sym (place_behind i (view x) (split_nth (n - 1) test (map view (drop (i + 1) xs))))
    ∙ ap (place_from i) (sym (ap (split_nth n test) (rest-map view xs i x inside is)
    ∙ nth_next n test (view x) (map view (drop (i + 1) xs)) true false passes more)) ∙ e

pub nth_on : {X A : Type 0} (view : X → A) (test : A → Bool) (xs : List X) (i n : ℕ) (x : X) (all : Option ℕ)
    → i < length xs → x ≡ get_or xs i x → test (view x) ≡ false
    → place_from i (split_nth n test (map view (drop i xs))) ≡ all
    → place_from (i + 1) (split_nth n test (map view (drop (i + 1) xs))) ≡ all
nth_on view test xs i n x all inside is fails e =
    sym (place_behind i (view x) (split_nth n test (map view (drop (i + 1) xs))))
    ∙ ap (place_from i) (sym (ap (split_nth n test) (rest-map view xs i x inside is)
    ∙ nth_next n test (view x) (map view (drop (i + 1) xs)) false (n == 1) fails refl)) ∙ e

-- a count of those that pass
pub count_here : {X A : Type 0} (view : X → A) (test : A → Bool) (xs : List X) (i n all : ℕ) (x : X)
    → i < length xs → x ≡ get_or xs i x → test (view x) ≡ true
    → n + length (filter test (map view (drop i xs))) ≡ all
    → n + 1 + length (filter test (map view (drop (i + 1) xs))) ≡ all
count_here view test xs i n all x inside is passes e =
    let rest = filter test (map view (drop (i + 1) xs)) in
    let found : filter test (map view (drop i xs)) ≡ view x ∷ rest =
    ap (filter test) (rest-map view xs i x inside is) ∙ ap (λ (t : Bool). cond t (view x ∷ rest) rest) passes in
    let size : length (filter test (map view (drop i xs))) ≡ length rest + 1 = ap length found ∙ omega arith in
    omega arith

pub count_on : {X A : Type 0} (view : X → A) (test : A → Bool) (xs : List X) (i n all : ℕ) (x : X)
    → i < length xs → x ≡ get_or xs i x → test (view x) ≡ false
    → n + length (filter test (map view (drop i xs))) ≡ all
    → n + length (filter test (map view (drop (i + 1) xs))) ≡ all
count_on view test xs i n all x inside is fails e =
    let rest = filter test (map view (drop (i + 1) xs)) in
    let found : filter test (map view (drop i xs)) ≡ rest =
    ap (filter test) (rest-map view xs i x inside is) ∙ ap (λ (t : Bool). cond t (view x ∷ rest) rest) fails in
    ap (λ l. n + length l) (sym found) ∙ e
