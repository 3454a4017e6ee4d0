use Rattle.res_calls.proofs.Cited.{◌≡◌, ℕ, ◌+◌, ◌<◌, Bool, true, false, cond, List, [], ◌∷◌, ◌++◌, length, map, drop, Option, Some, None}
use Rattle.res_calls.proofs.Cited.{refl, sym, ◌∙◌, ap, arith, get_or, subst, option_map, is_some, filter, flat_map, option_or, rest-map}
use Rattle.res_calls.proofs.Cited.{Split, split, behind, place, Reference, OpenFile, Resources, Found, find, found_in, found_behind}
use Rattle.res_calls.proofs.Cited.{find_from_current, split-whole, reference_in, at_index, in_file, found_at, found_from, spot_of, Spot}
use Rattle.std.specs.Prelude.{nat_le}
use Rattle.std.specs.List as first
use Rattle.res_calls.proofs.Standing.{index_whole}

-- A search along open files: what is found in the files that are left is found in all.

-- the place seen with files before it
abbrev pub shifted : ℕ → Spot → Spot
shifted i at = record at { file = i + at.file }

abbrev pub spot_from : ℕ → Option Found → Option Spot
spot_from i o = option_map (shifted i) (option_map spot_of o)

pub spot_start : (o : Option Found) → spot_from 0 o ≡ option_map spot_of o
spot_start None = refl
spot_start (Some at) = let e : 0 + place at.file ≡ place at.file = omega arith in cc

-- what one file gives
abbrev pub first_of : (OpenFile → Bool) → (Reference → Bool) → OpenFile → Option (Split Reference)
first_of within test f = cond (within f) (split test f.map.references) None

find-cons : (within : OpenFile → Bool) (test : Reference → Bool) (f : OpenFile) (older : List OpenFile)
    → find within test (f ∷ older)
    ≡ option_or (option_map (found_in f older) (first_of within test f))
    (option_map (found_behind f) (find within test older))
find-cons within test f older = cases (within f)
  where
    cases : (t : Bool) → option_or (cond t (option_map (found_in f older) (split test f.map.references)) None)
        (option_map (found_behind f) (find within test older))
        ≡ option_or (option_map (found_in f older) (cond t (split test f.map.references) None))
        (option_map (found_behind f) (find within test older))
    cases true = refl
    cases false = refl

pub here_spot : (i n : ℕ) (f : OpenFile) (older : List OpenFile) (o : Option (Split Reference)) (rest : Option Found)
    → Some n ≡ option_map place o → spot_from i (option_or (option_map (found_in f older) o) rest)
    ≡ Some (let s : Spot = record { file = i; reference = n } in s)
here_spot i n f older None rest e = cc
here_spot i n f older (Some at) rest e = let z : i + 0 ≡ i = omega arith in cc

pub on_spot : (i : ℕ) (f : OpenFile) (older : List OpenFile) (o : Option (Split Reference)) (rest : Option Found)
    → None ≡ option_map place o → spot_from i
    (option_or (option_map (found_in f older) o) (option_map (found_behind f) rest))
    ≡ spot_from (i + 1) rest
on_spot i f older (Some at) rest e = cc
on_spot i f older None None e = refl
on_spot i f older None (Some at) e =
    let z : i + length (f ∷ at.file.before) ≡ i + 1 + length at.file.before = omega arith in cc

pub found_here : {X : Type 0} (view : X → OpenFile) (within : OpenFile → Bool) (test : Reference → Bool) (xs : List X)
    (i n : ℕ) (x : X) (all : Option Spot) → i < length xs → x ≡ get_or xs i x
    → Some n ≡ option_map place (cond (within (view x)) (split test (view x).map.references) None)
    → spot_from i (find within test (map view (drop i xs))) ≡ all
    → Some (let s : Spot = record { file = i; reference = n } in s) ≡ all
found_here view within test xs i n x all inside is here e =
    let rest = map view (drop (i + 1) xs) in
    sym (here_spot i n (view x) rest (first_of within test (view x))
    (option_map (found_behind (view x)) (find within test rest)) here)
    ∙ ap (spot_from i) (sym (ap (find within test) (rest-map view xs i x inside is)
    ∙ find-cons within test (view x) rest))
    ∙ e

pub found_on : {X : Type 0} (view : X → OpenFile) (within : OpenFile → Bool) (test : Reference → Bool) (xs : List X)
    (i : ℕ) (x : X) (all : Option Spot) → i < length xs → x ≡ get_or xs i x
    → None ≡ option_map place (cond (within (view x)) (split test (view x).map.references) None)
    → spot_from i (find within test (map view (drop i xs))) ≡ all
    → spot_from (i + 1) (find within test (map view (drop (i + 1) xs))) ≡ all
found_on view within test xs i x all inside is here e =
    let rest = map view (drop (i + 1) xs) in
    sym (on_spot i (view x) rest (first_of within test (view x)) (find within test rest) here)
    ∙ ap (spot_from i) (sym (ap (find within test) (rest-map view xs i x inside is)
    ∙ find-cons within test (view x) rest))
    ∙ e

-- what a search finds stands in its place
split_stands : (test : Reference → Bool) (xs : List Reference) (at : Split Reference) → split test xs ≡ Some at
    → at_index (place at) xs ≡ Some at
split_stands test xs at e = index_whole xs at (split-whole test xs at e)

first_stands : (within : OpenFile → Bool) (test : Reference → Bool) (f : OpenFile) (at : Split Reference)
    → first_of within test f ≡ Some at → at_index (place at) f.map.references ≡ Some at
first_stands within test f at e = cases (within f) e
  where
    cases : (t : Bool) → cond t (split test f.map.references) None ≡ Some at → at_index (place at) f.map.references
        ≡ Some at
    cases true is = split_stands test f.map.references at is
    cases false is = cc

-- seen with one file more before it
in_behind : (f : OpenFile) (k : ℕ) (o : Option (Split OpenFile)) (at : Found) → in_file k o ≡ Some at
    → in_file k (option_map (behind f) o) ≡ Some (found_behind f at)
in_behind f k None at e = cc
in_behind f k (Some s) at e = cases (at_index k s.here.map.references) e
  where
    cases : (o : Option (Split Reference)) → option_map (reference_in s) o ≡ Some at
        → option_map (reference_in (behind f s)) o ≡ Some (found_behind f at)
    cases None is = cc
    cases (Some x) is = let same : reference_in s x ≡ at = cc in ap (λ (g : Found). Some (found_behind f g)) same

-- what the first file gives, or else those after it
pub either_stands : (f : OpenFile) (older : List OpenFile) (at : Found) (o : Option (Split Reference))
    → ((x : Split Reference) → o ≡ Some x → at_index (place x) f.map.references ≡ Some x)
    → (rest : Option Found) → ((b : Found) → rest ≡ Some b → found_at (spot_of b) older ≡ Some b)
    → option_or (option_map (found_in f older) o) (option_map (found_behind f) rest) ≡ Some at
    → found_at (spot_of at) (f ∷ older) ≡ Some at
either_stands f older at (Some x) first rest again is =
    let same : found_in f older x ≡ at = cc in
    subst (λ (g : Found). found_at (spot_of g) (f ∷ older) ≡ Some g) same
    (ap (option_map (reference_in (let s : Split OpenFile = record { before = []; here = f; after = older } in s))) (first x refl))
either_stands f older at None first None again is = cc
either_stands f older at None first (Some b) again is =
    let same : found_behind f b ≡ at = cc in
    subst (λ (g : Found). found_at (spot_of g) (f ∷ older) ≡ Some g) same
    (in_behind f (place b.reference) (at_index (place b.file) older) b (again b refl))

find_stands : (within : OpenFile → Bool) (test : Reference → Bool) (chain : List OpenFile) (at : Found)
    → find within test chain ≡ Some at → found_at (spot_of at) chain ≡ Some at
find_stands within test [] at e = cc
find_stands within test (f ∷ older) at e =
    either_stands f older at (first_of within test f) (first_stands within test f) (find within test older)
    (find_stands within test older) (sym (find-cons within test f older) ∙ e)

-- the place of what was found gives what was found
pub again_from : (p : Option Found) (chain : List OpenFile) (o : Option Spot)
    → ((b : Found) → p ≡ Some b → found_at (spot_of b) chain ≡ Some b) → o ≡ option_map spot_of p
    → found_from o chain ≡ p
again_from p chain o stands e = ap (λ q. found_from q chain) e ∙ cases p stands
  where
    cases : (p : Option Found) → ((b : Found) → p ≡ Some b → found_at (spot_of b) chain ≡ Some b)
        → found_from (option_map spot_of p) chain ≡ p
    cases None stands = refl
    cases (Some b) stands = stands b refl

pub placed_from : (p : Option Found) (chain : List OpenFile) (o : Option Spot) → found_from o chain ≡ p
    → o ≡ option_map spot_of p → is_some (found_from o chain) ≡ is_some o
placed_from p chain o found e = ap is_some found ∙ cases p ∙ ap is_some (sym e)
  where
    cases : (p : Option Found) → is_some p ≡ is_some (option_map spot_of p)
    cases None = refl
    cases (Some b) = refl

pub found_again : (within : OpenFile → Bool) (test : Reference → Bool) (chain : List OpenFile) (o : Option Spot)
    → o ≡ option_map spot_of (find within test chain) → found_from o chain ≡ find within test chain
found_again within test chain o e =
    again_from (find within test chain) chain o (find_stands within test chain) e

pub placed_again : (within : OpenFile → Bool) (test : Reference → Bool) (chain : List OpenFile) (o : Option Spot)
    → o ≡ option_map spot_of (find within test chain) → is_some (found_from o chain) ≡ is_some o
placed_again within test chain o e =
    placed_from (find within test chain) chain o (found_again within test chain o e) e

-- a search among items, and among items behind others
split_found : (test : Reference → Bool) (xs : List Reference)
    → option_map (λ (at : Split Reference). at.here) (split test xs) ≡ first.find test xs
split_found test [] = refl
split_found test (x ∷ xs) = cases (test x) (split test xs) (split_found test xs)
  where
    cases : (t : Bool) (o : Option (Split Reference)) → option_map (λ (at : Split Reference). at.here) o
        ≡ first.find test xs
        → option_map (λ (at : Split Reference). at.here)
        (cond t (Some (let s : Split Reference = record { before = []; here = x; after = xs } in s))
        (option_map (behind x) o))
        ≡ cond t (Some x) (first.find test xs)
    cases true o e = refl
    cases false None e = e
    cases false (Some at) e = e

find_append : (test : Reference → Bool) (xs ys : List Reference)
    → first.find test (xs ++ ys) ≡ option_or (first.find test xs) (first.find test ys)
find_append test [] ys = refl
find_append test (x ∷ xs) ys = cases (test x) (find_append test xs ys)
  where
    cases : (t : Bool) → first.find test (xs ++ ys) ≡ option_or (first.find test xs) (first.find test ys)
        → cond t (Some x) (first.find test (xs ++ ys))
        ≡ option_or (cond t (Some x) (first.find test xs)) (first.find test ys)
    cases true e = refl
    cases false e = e

-- the references of the files that are searched, in their order
abbrev searched : (OpenFile → Bool) → List OpenFile → List Reference
searched within chain = flat_map (λ (f : OpenFile). f.map.references) (filter within chain)

found_first : (within : OpenFile → Bool) (test : Reference → Bool) (chain : List OpenFile)
    → option_map (λ (at : Found). at.reference.here) (find within test chain) ≡ first.find test (searched within chain)
found_first within test [] = refl
found_first within test (f ∷ older) =
    cases (within f) (split test f.map.references) (find within test older) (split_found test f.map.references)
    (found_first within test older)
  where
    rest : Option Reference
    rest = first.find test (searched within older)

    files : Bool → List OpenFile
    files t = cond t (f ∷ filter within older) (filter within older)

    both : first.find test (f.map.references ++ searched within older)
        ≡ option_or (first.find test f.map.references) rest
    both = find_append test f.map.references (searched within older)

    cases : (t : Bool) (o : Option (Split Reference)) (p : Option Found)
        → option_map (λ (at : Split Reference). at.here) o ≡ first.find test f.map.references
        → option_map (λ (at : Found). at.reference.here) p ≡ rest
        → option_map (λ (at : Found). at.reference.here)
        (option_or (cond t (option_map (found_in f older) o) None) (option_map (found_behind f) p))
        ≡ first.find test (flat_map (λ (f : OpenFile). f.map.references) (files t))
    cases true (Some at) p e g = ap (λ q. option_or q rest) e ∙ sym both
    cases true None (Some at) e g = g ∙ ap (λ q. option_or q rest) e ∙ sym both
    cases true None None e g = g ∙ ap (λ q. option_or q rest) e ∙ sym both
    cases false o None e g = g
    cases false o (Some at) e g = g

pub find_first : (test : Reference → Bool) (r : Resources)
    → option_map (λ (at : Found). at.reference.here) (find_from_current test r)
    ≡ first.find test (searched (λ (f : OpenFile). nat_le f.number r.current) r.chain)
find_first test r = found_first (λ (f : OpenFile). nat_le f.number r.current) test r.chain
