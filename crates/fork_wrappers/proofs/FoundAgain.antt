use Rattle.fork_wrappers.proofs.Cited.{◌≡◌, ℕ, zero, suc, ◌+◌, ◌*◌, ◌≤◌, Bool, true, false, not, ◌||◌, cond, List, [], ◌∷◌, ◌++◌, length}
use Rattle.fork_wrappers.proofs.Cited.{take, Option, Some, None, refl, sym, ◌∙◌, ap, arith, ◌==◌, nat_lt, filter, Result, Ok, Err, list_all}
use Rattle.fork_wrappers.proofs.Cited.{and_from, eq-eqb, cond-true, cond-false, le-ltb, length-take-le, filter-append, list_all-append}
use Rattle.fork_wrappers.proofs.Cited.{number, offsets, stands_inside, number-stands, is_version_known, entry_count, entries_end}
use Rattle.fork_wrappers.proofs.Cited.{entry_places, entry_fits, entry_part, is_fork_entry, only_entry, fork_entry, fork_named}
use Rattle.fork_wrappers.proofs.Cited.{fork_in_entries, span_of, fork_span, with_fork, ForkSpan, EntriesFault}
use Rattle.fork_wrappers.proofs.NewEntries.{Roomy, laid, Entries, all_entries, own_entry}
use Rattle.fork_wrappers.proofs.Stretches.{part_stands_at, same_number}
use Rattle.fork_wrappers.proofs.Walking.{only_one}

-- The fork is found again among the entries of the new file.

-- all entries of the list fit
all_fit : (file : List ℕ) (span : ForkSpan) (fork places : List ℕ) → Entries file span fork places
    → list_all (entry_fits (with_fork file span fork)) places ≡ true
all_fit file span fork [] e = refl
all_fit file span fork (at ∷ places) e = and_from (entry_fits (with_fork file span fork) at) _ (e.0).fits
    (all_fit file span fork places e.1)

-- the entries of the fork are those that were
same_filter : (file : List ℕ) (span : ForkSpan) (fork places : List ℕ) → Entries file span fork places
    → filter (is_fork_entry (with_fork file span fork)) places ≡ filter (is_fork_entry file) places
same_filter file span fork [] e = refl
same_filter file span fork (at ∷ places) e =
    let new : List ℕ = with_fork file span fork in
    ap (λ t. cond t (at ∷ filter (is_fork_entry new) places) (filter (is_fork_entry new) places))
    (ap (λ n. n == 2) (e.0).id)
    ∙ ap (λ l. cond (is_fork_entry file at) (at ∷ l) l) (same_filter file span fork places e.1)

-- the only entry of the fork names the new fork
own_named : (file : List ℕ) (span : ForkSpan) (fork places : List ℕ) (at : ℕ) → Entries file span fork places
    → filter (is_fork_entry file) places ≡ at ∷ [] → entry_part (with_fork file span fork) at ≡ fork
own_named file span fork [] at e h = cc
own_named file span fork (first ∷ places) at e h =
    cases (own_named file span fork places at e.1) (is_fork_entry file first) refl h
  where
    cases : (filter (is_fork_entry file) places ≡ at ∷ [] → entry_part (with_fork file span fork) at ≡ fork)
        → (t : Bool) → is_fork_entry file first ≡ t
        → cond t (first ∷ filter (is_fork_entry file) places) (filter (is_fork_entry file) places) ≡ at ∷ []
        → entry_part (with_fork file span fork) at ≡ fork
    cases later true f h = let same : first ≡ at = cc in
        ap (entry_part (with_fork file span fork)) (sym same) ∙ (e.0).own f
    cases later false f h = later h

-- one offset more
offsets_more : (first n : ℕ) → offsets first 12 (n + 1) ≡ offsets first 12 n ++ (first + 12 * n) ∷ []
offsets_more first n = let e : n + 1 ≡ suc n = omega arith in ap (offsets first 12) e ∙ rest first n
  where
    rest : (first n : ℕ) → offsets first 12 (suc n) ≡ offsets first 12 n ++ (first + 12 * n) ∷ []
    rest first zero = let e : first ≡ first + 12 * 0 = omega arith in ap (λ n. n ∷ []) e
    rest first (suc n) = let e : first + 12 + 12 * n ≡ first + 12 * suc n = omega arith in
        ap (λ l. first ∷ l) (rest (first + 12) n ∙ ap (λ k. offsets (first + 12) 12 n ++ k ∷ []) e)

-- how a fork is found
said : (new fork : List ℕ) (n : ℕ) → 26 + 12 * n ≤ length new → is_version_known new ≡ true → entry_count new ≡ n
    → list_all (entry_fits new) (offsets 26 12 n) ≡ true
    → fork_named new (only_entry (filter (is_fork_entry new) (offsets 26 12 n))) ≡ Ok fork
    → fork_in_entries new ≡ Ok fork
said new fork n long known count fits named =
    cond-false (nat_lt (length new) 26) _ _ (le-ltb (length new) 26 (omega arith)) ∙ cond-false _ _ _ (ap not known)
    ∙ cond-false (nat_lt (length new) (entries_end new)) _ _ (le-ltb (length new) (entries_end new) (omega (arith, count)))
    ∙ cond-false _ _ _ (ap (λ k. not (list_all (entry_fits new) (offsets 26 12 k))) count ∙ ap not fits)
    ∙ ap (λ k. fork_named new (only_entry (filter (is_fork_entry new) (offsets 26 12 k)))) count ∙ named

-- the version stays
version_kept : (file : List ℕ) (span : ForkSpan) (fork : List ℕ) → Roomy file span (length fork)
    → is_version_known file ≡ true → is_version_known (with_fork file span fork) ≡ true
version_kept file span fork r known =
    let h = r.header in
    ap (λ n. n == 0x00010000 || n == 0x00020000) (same_number 4 (take 24 file) 0 0 4 file (with_fork file span fork)
    (part_stands_at 24 0 file (omega arith)) (laid file span fork r).head
    (let e = length-take-le 24 file (omega (arith, h)) in omega (arith, e))) ∙ known

-- where the fork had an entry
found_named : (file fork : List ℕ) (at : ℕ) → fork_entry file ≡ Ok (Some at)
    → Roomy file (span_of file (Ok (Some at))) (length fork) → is_version_known file ≡ true
    → fork_in_entries (with_fork file (span_of file (Ok (Some at))) fork) ≡ Ok fork
found_named file fork at entry r known =
    let span : ForkSpan = span_of file (Ok (Some at)) in
    let new : List ℕ = with_fork file span fork in
    let l = laid file span fork r in
    let e = all_entries file span fork r in
    let only = only_one (filter (is_fork_entry file) (entry_places file)) (Some at) entry in
    let low = r.list in
    let inside = stands_inside fork _ new l.own in
    let none : entry_count file + 0 ≡ entry_count file = omega arith in
    let small = r.count in
    let count : entry_count new ≡ entry_count file =
    number-stands 2 (entry_count file + 0) 24 new (omega (arith, small)) l.count ∙ none in
    said new fork (entry_count file) (omega (arith, low, inside)) (version_kept file span fork r known) count
    (all_fit file span fork (entry_places file) e)
    (ap (λ xs. fork_named new (only_entry xs)) (same_filter file span fork (entry_places file) e ∙ sym only)
    ∙ ap Ok (own_named file span fork (entry_places file) at e (sym only)))

-- where it had none
found_added : (file fork : List ℕ) → fork_entry file ≡ Ok None → Roomy file (span_of file (Ok None)) (length fork)
    → is_version_known file ≡ true → fork_in_entries (with_fork file (span_of file (Ok None)) fork) ≡ Ok fork
found_added file fork entry r known =
    let span : ForkSpan = span_of file (Ok None) in
    let new : List ℕ = with_fork file span fork in
    let places : List ℕ = entry_places file in
    let last : ℕ = entries_end file in
    let l = laid file span fork r in
    let e = all_entries file span fork r in
    let only = only_one (filter (is_fork_entry file) places) None entry in
    let o = own_entry file span fork last r l.added in
    let low = r.list in
    let inside = stands_inside fork _ new l.own in
    let small = r.count in
    let count : entry_count new ≡ entry_count file + 1 =
    number-stands 2 (entry_count file + 1) 24 new (omega (arith, small)) l.count in
    let more : offsets 26 12 (entry_count file + 1) ≡ places ++ last ∷ [] = offsets_more 26 (entry_count file) in
    let is : is_fork_entry new last ≡ true = eq-eqb (number 4 last new) 2 o.0 in
    let fits : list_all (entry_fits new) (places ++ last ∷ []) ≡ true =
    list_all-append (entry_fits new) places (last ∷ [])
    ∙ and_from _ _ (all_fit file span fork places e) (and_from (entry_fits new last) true o.1 refl) in
    let found : filter (is_fork_entry new) (places ++ last ∷ []) ≡ last ∷ [] =
    filter-append (is_fork_entry new) places (last ∷ [])
    ∙ ap (λ xs. xs ++ filter (is_fork_entry new) (last ∷ [])) (same_filter file span fork places e ∙ sym only)
    ∙ cond-true (is_fork_entry new last) (last ∷ []) [] is in
    said new fork (entry_count file + 1) (omega (arith, low, inside)) (version_kept file span fork r known) count
    (ap (list_all (entry_fits new)) more ∙ fits)
    (ap (λ xs. fork_named new (only_entry (filter (is_fork_entry new) xs))) more
    ∙ ap (λ xs. fork_named new (only_entry xs)) found ∙ ap Ok o.2)

-- several entries of the fork are none of a file that is whole
one_entry : (file fork old : List ℕ) (o : Result (Option ℕ) EntriesFault) → fork_entry file ≡ o
    → fork_named file o ≡ Ok old → Roomy file (span_of file o) (length fork) → is_version_known file ≡ true
    → fork_in_entries (with_fork file (span_of file o) fork) ≡ Ok fork
one_entry file fork old (Ok (Some at)) entry named r known = found_named file fork at entry r known
one_entry file fork old (Ok None) entry named r known = found_added file fork entry r known
one_entry file fork old (Err why) entry named r known = cc

pub found_again : (file fork old : List ℕ) → fork_named file (fork_entry file) ≡ Ok old
    → Roomy file (fork_span file) (length fork) → is_version_known file ≡ true
    → fork_in_entries (with_fork file (fork_span file) fork) ≡ Ok fork
found_again file fork old named r known = one_entry file fork old (fork_entry file) refl named r known
