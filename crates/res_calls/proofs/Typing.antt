use Rattle.res_calls.proofs.Cited.{◌≡◌, ℕ, zero, suc, ◌+◌, ◌-◌, ◌<◌, ◌≤◌, ◌^◌, ◌==◌, Bool, true, false, not, ◌||◌, List, [], ◌∷◌, ◌++◌}
use Rattle.res_calls.proofs.Cited.{length, map, drop, take, Option, Some, None, refl, sym, ◌∙◌, ap, arith, cond, get_or, filter, list_any}
use Rattle.res_calls.proofs.Cited.{Decides-eqb, drop_all, length-append, map-append, map_more, filter-append, list_any-append, big_number}
use Rattle.res_calls.proofs.Cited.{distinct, flips, rest-map, OsType, Reference, nth, types, OpenFile, references, has_type, is_new}
use Rattle.res_calls.proofs.Cited.{new_types, told_count, view_open}
use Rattle.std.proofs.Common.{slice_get}
use Rattle.std.specs.Prelude.{◌≢◌}
use Rattle.res_calls.specs.declared.files.OpenFile.{OpenFile as StoredOpenFile}

-- The types of all open files, gone through file by file.

-- a number is among others
abbrev pub among : ℕ → List ℕ → Bool
among k ns = list_any (λ (n : ℕ). n == k) ns

or-nothing : (t : Bool) → (t || false) ≡ t
or-nothing true = refl
or-nothing false = refl

filter-all : (ns : List ℕ) → filter (λ (k : ℕ). true) ns ≡ ns
filter-all [] = refl
filter-all (n ∷ ns) = ap (λ l. n ∷ l) (filter-all ns)

filter-same : (p q : ℕ → Bool) → ((k : ℕ) → p k ≡ q k) → (ns : List ℕ) → filter p ns ≡ filter q ns
filter-same p q same [] = refl
filter-same p q same (n ∷ ns) =
    ap (λ (t : Bool). cond t (n ∷ filter p ns) (filter p ns)) (same n)
    ∙ ap (λ (l : List ℕ). cond (q n) (n ∷ l) l) (filter-same p q same ns)

filter-both : (p q : ℕ → Bool) (ns : List ℕ)
    → filter (λ k. not (p k)) (filter (λ k. not (q k)) ns) ≡ filter (λ k. not (p k || q k)) ns
filter-both p q [] = refl
filter-both p q (n ∷ ns) = by_tests (p n) (q n) refl (filter-both p q ns)
  where
    first : List ℕ → List ℕ
    first l = filter (λ k. not (p k)) l

    second : List ℕ
    second = filter (λ k. not (q k)) ns

    both : List ℕ
    both = filter (λ k. not (p k || q k)) ns

    by_tests : (a b : Bool) → p n ≡ a → first second ≡ both
        → first (cond (not b) (n ∷ second) second) ≡ cond (not (a || b)) (n ∷ both) both
    by_tests true true is e = e
    by_tests true false is e = ap (λ (t : Bool). cond (not t) (n ∷ first second) (first second)) is ∙ e
    by_tests false true is e = e
    by_tests false false is e =
        ap (λ (t : Bool). cond (not t) (n ∷ first second) (first second)) is ∙ ap (λ l. n ∷ l) e

-- what is among the different ones of some numbers is among them
among-others : (k n : ℕ) (ns : List ℕ) → (n == k) ≡ false → among k (filter (λ m. not (m == n)) ns) ≡ among k ns
among-others k n [] apart = refl
among-others k n (m ∷ ns) apart = by_test (m == n) refl (among-others k n ns apart)
  where
    rest : List ℕ
    rest = filter (λ x. not (x == n)) ns

    by_test : (t : Bool) → (m == n) ≡ t → among k rest ≡ among k ns
        → among k (cond (not t) (m ∷ rest) rest) ≡ (m == k || among k ns)
    by_test false is e = ap (λ (t : Bool). m == k || t) e
    by_test true is e =
        let other : (m == k) ≡ false = ap (λ (x : ℕ). x == k) ((Decides-eqb m n).0 is) ∙ apart in
        e ∙ ap (λ (t : Bool). t || among k ns) (sym other)

among-distinct : (k : ℕ) (ns : List ℕ) → among k (distinct ns) ≡ among k ns
among-distinct k [] = refl
among-distinct k (n ∷ ns) = by_test (n == k) refl (among-distinct k ns)
  where
    by_test : (t : Bool) → (n == k) ≡ t → among k (distinct ns) ≡ among k ns
        → (t || among k (filter (λ m. not (m == n)) (distinct ns))) ≡ (t || among k ns)
    by_test true is e = refl
    by_test false is e = among-others k n (distinct ns) is ∙ e

-- the different ones of two lists, one after the other
distinct-append : (ms ns : List ℕ)
    → distinct (ms ++ ns) ≡ distinct ms ++ filter (λ k. not (among k ms)) (distinct ns)
distinct-append [] ns = sym (filter-all (distinct ns))
distinct-append (m ∷ ms) ns =
    let others : ℕ → Bool = λ k. not (k == m) in
    let behind : List ℕ = filter (λ k. not (among k ms)) (distinct ns) in
    ap (λ l. m ∷ filter others l) (distinct-append ms ns)
    ∙ ap (λ l. m ∷ l) (filter-append others (distinct ms) behind)
    ∙ ap (λ (l : List ℕ). m ∷ filter others (distinct ms) ++ l)
    (filter-both (λ k. k == m) (λ k. among k ms) (distinct ns)
    ∙ filter-same (λ k. not (k == m || among k ms)) (λ k. not (m == k || among k ms))
    (λ k. ap (λ (t : Bool). not (t || among k ms)) (flips k m)) (distinct ns))

-- the types of a file that no file before it has, and those of the files behind it that neither they nor it have
next-types : (before : List OpenFile) (f : OpenFile) (older : List OpenFile)
    → filter (is_new before) (types (references (f ∷ older)))
    ≡ new_types before f.map.references ++ filter (is_new (before ++ f ∷ [])) (types (references older))
next-types before f older =
    let kinds : List ℕ = map (λ (r : Reference). r.kind) f.map.references in
    let rest : List ℕ = types (references older) in
    let unlike : List ℕ = filter (λ k. not (among k kinds)) rest in
    ap (λ (l : List ℕ). filter (is_new before) (distinct l))
    (map-append (λ (r : Reference). r.kind) f.map.references (references older))
    ∙ ap (filter (is_new before)) (distinct-append kinds (map (λ (r : Reference). r.kind) (references older)))
    ∙ filter-append (is_new before) (distinct kinds) unlike
    ∙ ap (λ (l : List ℕ). new_types before f.map.references ++ l)
    (filter-both (has_type before) (λ k. among k kinds) rest
    ∙ filter-same (λ k. not (has_type before k || among k kinds)) (is_new (before ++ f ∷ []))
    (λ k. ap not (ap (λ (t : Bool). has_type before k || t) (sym (alone k kinds)) ∙ sym (with-one k))) rest)
  where
    alone : (k : ℕ) (kinds : List ℕ) → (among k (distinct kinds) || false) ≡ among k kinds
    alone k kinds = or-nothing (among k (distinct kinds)) ∙ among-distinct k kinds

    with-one : (k : ℕ) → has_type (before ++ f ∷ []) k ≡ (has_type before k || (among k (types f.map.references) || false))
    with-one k = list_any-append (λ (g : OpenFile). among k (types g.map.references)) before (f ∷ [])

-- one of the files has a type
pub has_here : (kind : ℕ) (files : List StoredOpenFile) (i : ℕ) (x : StoredOpenFile) (all : Bool) → i < length files
    → x ≡ get_or files i x → list_any (λ (k : ℕ). k == kind) (types x.map.references) ≡ true
    → has_type (map view_open (drop i files)) kind ≡ all → true ≡ all
has_here kind files i x all inside is here e =
    ap (λ (t : Bool). t || has_type (map view_open (drop (i + 1) files)) kind) (sym here)
    ∙ sym (ap (λ l. has_type l kind) (rest-map view_open files i x inside is)) ∙ e

pub has_on : (kind : ℕ) (files : List StoredOpenFile) (i : ℕ) (x : StoredOpenFile) (all : Bool) → i < length files
    → x ≡ get_or files i x → list_any (λ (k : ℕ). k == kind) (types x.map.references) ≡ false
    → has_type (map view_open (drop i files)) kind ≡ all → has_type (map view_open (drop (i + 1) files)) kind ≡ all
has_on kind files i x all inside is here e =
    ap (λ (t : Bool). t || has_type (map view_open (drop (i + 1) files)) kind) (sym here)
    ∙ sym (ap (λ l. has_type l kind) (rest-map view_open files i x inside is)) ∙ e

-- a list from an item on
rest_at : (xs : List ℕ) (i x : ℕ) → slice_get xs i ≡ Some x → drop i xs ≡ x ∷ drop (i + 1) xs
rest_at [] i x e = cc
rest_at (y ∷ ys) zero x e = let same : y ≡ x = cc in ap (λ (z : ℕ). z ∷ ys) same
rest_at (y ∷ ys) (suc i) x e =
    let on : suc i + 1 ≡ suc (i + 1) = omega arith in
    rest_at ys i x e ∙ ap (λ (n : ℕ). x ∷ drop n (y ∷ ys)) (sym on)

past_end : (xs : List ℕ) (n i : ℕ) → n ≡ length xs → n ≤ i → drop i xs ≡ []
past_end xs n i long past = drop_all i xs (omega (arith, long))

-- the new ones among a file's types, one after the other
new-here : (p : ℕ → Bool) (kinds : List ℕ) (i k : ℕ) → slice_get kinds i ≡ Some k → p k ≡ true
    → filter p (drop i kinds) ≡ k ∷ filter p (drop (i + 1) kinds)
new-here p kinds i k at is = ap (filter p) (rest_at kinds i k at)
    ∙ ap (λ (t : Bool). cond t (k ∷ filter p (drop (i + 1) kinds)) (filter p (drop (i + 1) kinds))) is

new-on : (p : ℕ → Bool) (kinds : List ℕ) (i k : ℕ) → slice_get kinds i ≡ Some k → p k ≡ false
    → filter p (drop i kinds) ≡ filter p (drop (i + 1) kinds)
new-on p kinds i k at is = ap (filter p) (rest_at kinds i k at)
    ∙ ap (λ (t : Bool). cond t (k ∷ filter p (drop (i + 1) kinds)) (filter p (drop (i + 1) kinds))) is

pub count_on : (before : List OpenFile) (kinds : List ℕ) (i k count one all : ℕ) → slice_get kinds i ≡ Some k
    → one ≡ cond (has_type before k) 0 1 → count + length (filter (is_new before) (drop i kinds)) ≡ all
    → count + one + length (filter (is_new before) (drop (i + 1) kinds)) ≡ all
count_on before kinds i k count one all at is e = by_test (has_type before k) refl
  where
    rest : ℕ
    rest = length (filter (is_new before) (drop (i + 1) kinds))

    by_test : (t : Bool) → has_type before k ≡ t → count + one + rest ≡ all
    by_test true known =
        let none : one ≡ 0 = is ∙ ap (λ (t : Bool). cond t 0 1) known in
        let here = ap length (new-on (is_new before) kinds i k at (ap not known)) in
        omega (arith, none, here, e)
    by_test false new =
        let more : one ≡ 1 = is ∙ ap (λ (t : Bool). cond t 0 1) new in
        let here = ap length (new-here (is_new before) kinds i k at (ap not new)) in
        let long : length (filter (is_new before) (drop i kinds)) ≡ 1 + rest = here ∙ omega arith in
        omega (arith, more, long, e)

pub count_few : (t : Bool) (i count one : ℕ) → one ≡ cond t 0 1 → count ≤ i → count + one ≤ i + 1
count_few true i count one is few = omega (arith, is)
count_few false i count one is few = omega (arith, is)

pub count_none : (before : List OpenFile) (kinds : List ℕ) (n i count all : ℕ) → n ≡ length kinds → n ≤ i
    → count + length (filter (is_new before) (drop i kinds)) ≡ all → count ≡ all
count_none before kinds n i count all long past e =
    let none = ap (λ (l : List ℕ). count + length (filter (is_new before) l)) (past_end kinds n i long past) in
    let same : count ≡ count + 0 = omega arith in same ∙ sym none ∙ e

-- the n-th of them
pub nth_here : (before : List OpenFile) (kinds : List ℕ) (i k left : ℕ) (all : Option ℕ) → slice_get kinds i ≡ Some k
    → has_type before k ≡ false → left ≡ 1 → nth left (filter (is_new before) (drop i kinds)) ≡ all → Some k ≡ all
nth_here before kinds i k left all at new one e =
    let here = new-here (is_new before) kinds i k at (ap not new) in
    sym (ap (λ (n : ℕ). nth n (filter (is_new before) (drop i kinds))) one ∙ ap (nth 1) here) ∙ e

nth-next : (left k : ℕ) (ks : List ℕ) → left ≢ 1 → nth left (k ∷ ks) ≡ nth (left - 1) ks
nth-next zero k ks other = refl
nth-next (suc zero) k ks other = absurd (other refl)
nth-next (suc (suc n)) k ks other =
    let less : suc (suc n) - 1 ≡ suc n = omega arith in ap (λ (m : ℕ). nth m ks) (sym less)

pub nth_new : (before : List OpenFile) (kinds : List ℕ) (i k left : ℕ) (all : Option ℕ) → slice_get kinds i ≡ Some k
    → has_type before k ≡ false → left ≢ 1 → nth left (filter (is_new before) (drop i kinds)) ≡ all
    → nth (left - 1) (filter (is_new before) (drop (i + 1) kinds)) ≡ all
nth_new before kinds i k left all at new other e =
    sym (ap (nth left) (new-here (is_new before) kinds i k at (ap not new))
    ∙ nth-next left k (filter (is_new before) (drop (i + 1) kinds)) other) ∙ e

pub nth_known : (before : List OpenFile) (kinds : List ℕ) (i k left : ℕ) (all : Option ℕ) → slice_get kinds i ≡ Some k
    → has_type before k ≡ true → nth left (filter (is_new before) (drop i kinds)) ≡ all
    → nth left (filter (is_new before) (drop (i + 1) kinds)) ≡ all
nth_known before kinds i k left all at known e =
    sym (ap (nth left) (new-on (is_new before) kinds i k at (ap not known))) ∙ e

nth-nil : (left : ℕ) → nth {A = ℕ} left [] ≡ None
nth-nil zero = refl
nth-nil (suc n) = refl

pub nth_none : (before : List OpenFile) (kinds : List ℕ) (n i left : ℕ) (all : Option ℕ) → n ≡ length kinds → n ≤ i
    → nth left (filter (is_new before) (drop i kinds)) ≡ all → None ≡ all
nth_none before kinds n i left all long past e =
    sym (ap (λ (l : List ℕ). nth left (filter (is_new before) l)) (past_end kinds n i long past) ∙ nth-nil left) ∙ e

-- the types that are left, from a file on
abbrev pub left_from : ℕ → List StoredOpenFile → List ℕ
left_from i files =
    filter (is_new (map view_open (take i files))) (types (references (map view_open (drop i files))))

left-next : (files : List StoredOpenFile) (i : ℕ) (x : StoredOpenFile) → i < length files → x ≡ get_or files i x
    → left_from i files ≡ new_types (map view_open (take i files)) x.map.references ++ left_from (i + 1) files
left-next files i x inside is =
    let before : List OpenFile = map view_open (take i files) in
    let older : List OpenFile = map view_open (drop (i + 1) files) in
    let more : before ++ view_open x ∷ [] ≡ map view_open (take (i + 1) files) =
    sym (map_more view_open files i x inside ∙ ap (λ (y : StoredOpenFile). before ++ view_open y ∷ []) (sym is)) in
    ap (λ l. filter (is_new before) (types (references l))) (rest-map view_open files i x inside is)
    ∙ next-types before (view_open x) older
    ∙ ap (λ (l : List OpenFile). new_types before x.map.references ++ filter (is_new l) (types (references older))) more

left-all : (files : List StoredOpenFile) → left_from 0 files ≡ types (references (map view_open files))
left-all files = filter-all (types (references (map view_open files)))

pub told_more : (m n : ℕ) → told_count (told_count m + n) ≡ told_count (m + n)
told_more m n = omega arith

pub told_small : (n : ℕ) → n < 2 ^ 63 → told_count n ≡ n
told_small n small = omega arith

pub types_start : (files : List StoredOpenFile)
    → told_count (0 + length (left_from 0 files)) ≡ told_count (length (types (references (map view_open files))))
types_start files =
    let e : 0 + length (left_from 0 files) ≡ length (types (references (map view_open files))) =
    let same = ap length (left-all files) in omega (arith, same) in ap told_count e

pub types_on : (files : List StoredOpenFile) (i total count new all : ℕ) (x : StoredOpenFile) → i < length files
    → x ≡ get_or files i x → count ≡ length (new_types (map view_open (take i files)) x.map.references)
    → new ≡ told_count (total + count) → told_count (total + length (left_from i files)) ≡ all
    → told_count (new + length (left_from (i + 1) files)) ≡ all
types_on files i total count new all x inside is counted so e =
    let rest : ℕ = length (left_from (i + 1) files) in
    let front : length (left_from i files) ≡ count + rest =
    ap length (left-next files i x inside is)
    ∙ length-append (new_types (map view_open (take i files)) x.map.references) (left_from (i + 1) files)
    ∙ ap (λ (n : ℕ). n + rest) (sym counted) in
    let sum : total + count + rest ≡ total + length (left_from i files) = omega (arith, front) in
    ap (λ (n : ℕ). told_count (n + rest)) so ∙ told_more (total + count) rest ∙ ap told_count sum ∙ e

left-end : (files : List StoredOpenFile) (i : ℕ) → length files ≤ i → left_from i files ≡ []
left-end files i past =
    ap (λ l. filter (is_new (map view_open (take i files))) (types (references (map view_open l))))
    (drop_all i files past)

pub types_end : (files : List StoredOpenFile) (i total all : ℕ) → length files ≤ i → total < 2 ^ 63
    → told_count (total + length (left_from i files)) ≡ all → total ≡ all
types_end files i total all past small e =
    let none = ap length (left-end files i past) in
    let same : total + length (left_from i files) ≡ total = omega (arith, none) in
    sym (told_small total small) ∙ ap told_count (sym same) ∙ e

-- the n-th of all
pub each_start : (files : List StoredOpenFile) (n : ℕ)
    → nth n (left_from 0 files) ≡ nth n (types (references (map view_open files)))
each_start files n = ap (nth n) (left-all files)

nth-front : (n : ℕ) (xs ys : List ℕ) (k : ℕ) → nth n xs ≡ Some k → nth n (xs ++ ys) ≡ Some k
nth-front zero xs ys k e = cc
nth-front (suc n) [] ys k e = cc
nth-front (suc zero) (x ∷ xs) ys k e = e
nth-front (suc (suc n)) (x ∷ xs) ys k e = nth-front (suc n) xs ys k e

nth-behind : (n : ℕ) (xs ys : List ℕ) → nth n xs ≡ None → nth n (xs ++ ys) ≡ nth (n - length xs) ys
nth-behind zero xs ys e = let none : 0 - length xs ≡ 0 = omega arith in sym (ap (λ (m : ℕ). nth m ys) none)
nth-behind (suc n) [] ys e = let less : suc n - 0 ≡ suc n = omega arith in ap (λ (m : ℕ). nth m ys) (sym less)
nth-behind (suc zero) (x ∷ xs) ys e = cc
nth-behind (suc (suc n)) (x ∷ xs) ys e =
    let less : suc (suc n) - length (x ∷ xs) ≡ suc n - length xs = omega arith in
    nth-behind (suc n) xs ys e ∙ ap (λ (m : ℕ). nth m ys) (sym less)

pub each_here : (files : List StoredOpenFile) (i left : ℕ) (x : StoredOpenFile) (ty : OsType) (all : Option ℕ)
    → i < length files → x ≡ get_or files i x
    → Some (big_number 4 ty.0) ≡ nth left (new_types (map view_open (take i files)) x.map.references)
    → nth left (left_from i files) ≡ all → Some (big_number 4 ty.0) ≡ all
each_here files i left x ty all inside is here e =
    sym (ap (nth left) (left-next files i x inside is)
    ∙ nth-front left (new_types (map view_open (take i files)) x.map.references) (left_from (i + 1) files)
    (big_number 4 ty.0) (sym here)) ∙ e

pub each_on : (files : List StoredOpenFile) (i left count more : ℕ) (x : StoredOpenFile) (all : Option ℕ)
    → i < length files → x ≡ get_or files i x
    → None ≡ nth left (new_types (map view_open (take i files)) x.map.references)
    → count ≡ length (new_types (map view_open (take i files)) x.map.references) → more ≡ left - count
    → nth left (left_from i files) ≡ all → nth more (left_from (i + 1) files) ≡ all
each_on files i left count more x all inside is here counted less e =
    ap (λ (m : ℕ). nth m (left_from (i + 1) files)) (less ∙ ap (λ (n : ℕ). left - n) counted)
    ∙ sym (ap (nth left) (left-next files i x inside is)
    ∙ nth-behind left (new_types (map view_open (take i files)) x.map.references) (left_from (i + 1) files) (sym here)) ∙ e

pub each_end : (files : List StoredOpenFile) (i left : ℕ) (all : Option ℕ) → length files ≤ i
    → nth left (left_from i files) ≡ all → None ≡ all
each_end files i left all past e = sym (ap (nth left) (left-end files i past) ∙ nth-nil left) ∙ e
