use Rattle.res_calls.proofs.Cited.{◌≡◌, ℕ, suc, ◌+◌, ◌-◌, ◌<◌, ◌≤◌, ◌^◌, Bool, true, false, List, [], ◌∷◌, length, map, drop, Option, Some}
use Rattle.res_calls.proofs.Cited.{None, refl, sym, ◌∙◌, ap, arith, get_or, option_map, is_some, rest-map, place, is_of, of_type, split_nth}
use Rattle.res_calls.proofs.Cited.{split_nth-whole, OpenFile, Found, found_behind, count_each, told_count, nth_each, first_free, found_at}
use Rattle.res_calls.proofs.Cited.{found_from, spot_of, Spot, view_open}
use Rattle.res_calls.specs.declared.files.OpenFile.{OpenFile as StoredOpenFile}
use Rattle.res_calls.proofs.Standing.{index_whole}
use Rattle.res_calls.proofs.Typing.{told_small, told_more}
use Rattle.res_calls.proofs.Finding.{spot_from, spot_start, here_spot, on_spot, either_stands, again_from, placed_from}

-- What is counted and indexed through all open files; an ID that is free.

pub count_start : (kind : ℕ) (files : List StoredOpenFile) → told_count (0 + count_each kind (map view_open files))
    ≡ told_count (count_each kind (map view_open files))
count_start kind files = let e : 0 + count_each kind (map view_open files) ≡ count_each kind (map view_open files)
    = omega arith in ap told_count e

pub count_on : (kind : ℕ) (files : List StoredOpenFile) (i total count new all : ℕ) (x : StoredOpenFile)
    → i < length files → x ≡ get_or files i x → count ≡ length (of_type kind x.map.references)
    → new ≡ told_count (total + count) → told_count (total + count_each kind (map view_open (drop i files))) ≡ all
    → told_count (new + count_each kind (map view_open (drop (i + 1) files))) ≡ all
count_on kind files i total count new all x inside is counted so e =
    let rest : ℕ = count_each kind (map view_open (drop (i + 1) files)) in
    let front : count_each kind (map view_open (drop i files)) ≡ count + rest =
    ap (count_each kind) (rest-map view_open files i x inside is) ∙ ap (λ (n : ℕ). n + rest) (sym counted) in
    let sum : total + count + rest ≡ total + count_each kind (map view_open (drop i files)) = omega (arith, front) in
    ap (λ (n : ℕ). told_count (n + rest)) so ∙ told_more (total + count) rest ∙ ap told_count sum ∙ e

pub count_end : (total all : ℕ) → total < 2 ^ 63 → told_count (total + 0) ≡ all → total ≡ all
count_end total all small e =
    let same : total ≡ total + 0 = omega arith in sym (told_small total small) ∙ ap told_count same ∙ e

pub count_done : (total all : ℕ) → total < 2 ^ 63 → told_count total ≡ all → total ≡ all
count_done total all small e = sym (told_small total small) ∙ e

-- the n-th of a type, from a file on

pub each_here : (kind n : ℕ) (files : List StoredOpenFile) (i k : ℕ) (x : StoredOpenFile) (all : Option Spot)
    → i < length files → x ≡ get_or files i x → Some k ≡ option_map place (split_nth n (is_of kind) x.map.references)
    → spot_from i (nth_each kind n (map view_open (drop i files))) ≡ all
    → Some (let s : Spot = record { file = i; reference = k } in s) ≡ all
each_here kind n files i k x all inside is here e =
    let rest = map view_open (drop (i + 1) files) in
    sym (here_spot i k (view_open x) rest (split_nth n (is_of kind) x.map.references)
    (option_map (found_behind (view_open x)) (nth_each kind (n - length (of_type kind x.map.references)) rest)) here)
    ∙ ap (spot_from i) (sym (ap (nth_each kind n) (rest-map view_open files i x inside is))) ∙ e

pub each_on : (kind n m count : ℕ) (files : List StoredOpenFile) (i : ℕ) (x : StoredOpenFile) (all : Option Spot)
    → i < length files → x ≡ get_or files i x → None ≡ option_map place (split_nth n (is_of kind) x.map.references)
    → count ≡ length (of_type kind x.map.references) → m ≡ n - count
    → spot_from i (nth_each kind n (map view_open (drop i files))) ≡ all
    → spot_from (i + 1) (nth_each kind m (map view_open (drop (i + 1) files))) ≡ all
each_on kind n m count files i x all inside is here counted left e =
    let rest = map view_open (drop (i + 1) files) in
    let so : m ≡ n - length (of_type kind x.map.references) = left ∙ ap (λ (k : ℕ). n - k) counted in
    ap (λ (k : ℕ). spot_from (i + 1) (nth_each kind k rest)) so
    ∙ sym (on_spot i (view_open x) rest (split_nth n (is_of kind) x.map.references)
    (nth_each kind (n - length (of_type kind x.map.references)) rest) here)
    ∙ ap (spot_from i) (sym (ap (nth_each kind n) (rest-map view_open files i x inside is))) ∙ e

each-stands : (kind n : ℕ) (chain : List OpenFile) (at : Found) → nth_each kind n chain ≡ Some at
    → found_at (spot_of at) chain ≡ Some at
each-stands kind n [] at e = cc
each-stands kind n (f ∷ older) at e =
    let left : ℕ = n - length (of_type kind f.map.references) in
    either_stands f older at (split_nth n (is_of kind) f.map.references)
    (λ x is. index_whole f.map.references x (split_nth-whole n (is_of kind) f.map.references x is))
    (nth_each kind left older) (each-stands kind left older) e

pub each_again : (kind n : ℕ) (chain : List OpenFile) (o : Option Spot)
    → o ≡ option_map spot_of (nth_each kind n chain) → found_from o chain ≡ nth_each kind n chain
each_again kind n chain o e = again_from (nth_each kind n chain) chain o (each-stands kind n chain) e

pub each_placed : (kind n : ℕ) (chain : List OpenFile) (o : Option Spot)
    → o ≡ option_map spot_of (nth_each kind n chain) → is_some (found_from o chain) ≡ is_some o
each_placed kind n chain o e = placed_from (nth_each kind n chain) chain o (each_again kind n chain o e) e

-- an ID is taken where its place is found
pub taken_so : (b : Bool) (r : Option Spot) (o : Option Found) → b ≡ is_some r → r ≡ option_map spot_of o
    → b ≡ is_some o
taken_so b r None told found = told ∙ ap is_some found
taken_so b r (Some at) told found = told ∙ ap is_some found

-- the first that is free, from an ID on
free-now : (taken : ℕ → Bool) (n id : ℕ) → taken id ≡ false → first_free taken (suc n) id ≡ Some id
unfolding first_free
free-now taken n id free = rw (free, first_free) refl

free-next : (taken : ℕ → Bool) (n id : ℕ) → taken id ≡ true → first_free taken (suc n) id ≡ first_free taken n (id + 1)
unfolding first_free
free-next taken n id full = rw (full, first_free) refl

pub free_here : (taken : ℕ → Bool) (i : ℕ) (all : Option ℕ) → i < 32640 → taken (128 + i) ≡ false
    → first_free taken (32640 - i) (128 + i) ≡ all → Some (128 + i) ≡ all
free_here taken i all inside free e =
    let left : 32640 - i ≡ suc (32640 - (i + 1)) = omega arith in
    sym (ap (λ (n : ℕ). first_free taken n (128 + i)) left ∙ free-now taken (32640 - (i + 1)) (128 + i) free) ∙ e

pub free_on : (taken : ℕ → Bool) (i : ℕ) (all : Option ℕ) → i < 32640 → taken (128 + i) ≡ true
    → first_free taken (32640 - i) (128 + i) ≡ all → first_free taken (32640 - (i + 1)) (128 + (i + 1)) ≡ all
free_on taken i all inside full e =
    let left : 32640 - i ≡ suc (32640 - (i + 1)) = omega arith in
    let next : 128 + (i + 1) ≡ 128 + i + 1 = omega arith in
    ap (first_free taken (32640 - (i + 1))) next
    ∙ sym (ap (λ (n : ℕ). first_free taken n (128 + i)) left ∙ free-next taken (32640 - (i + 1)) (128 + i) full) ∙ e

none-free : (taken : ℕ → Bool) (id : ℕ) → first_free taken 0 id ≡ None
unfolding first_free
none-free taken id = refl

pub free_done : (taken : ℕ → Bool) (id : ℕ) (all : Option ℕ) → first_free taken 0 id ≡ all → None ≡ all
free_done taken id all e = sym (none-free taken id) ∙ e

pub free_end : (taken : ℕ → Bool) (i : ℕ) (all : Option ℕ) → 32640 ≤ i
    → first_free taken (32640 - i) (128 + i) ≡ all → None ≡ all
free_end taken i all past e =
    let none : 32640 - i ≡ 0 = omega arith in
    free_done taken (128 + i) all (sym (ap (λ (n : ℕ). first_free taken n (128 + i)) none) ∙ e)
