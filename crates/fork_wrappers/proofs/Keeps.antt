use Rattle.fork_wrappers.proofs.Cited.{◌≡◌, ◌≢◌, ℕ, ◌+◌, ◌-◌, ◌++◌, ◌<◌, ◌≤◌, ◌^◌, true, not, List, [], ◌∷◌, length, take, drop, refl, sym}
use Rattle.fork_wrappers.proofs.Cited.{◌∙◌, ap, subst, arith, inl, inr, ◌==◌, nat_lt, Result, Ok, Err, AllByRecursion, ltb-false, checksum}
use Rattle.fork_wrappers.proofs.Cited.{number, part, entry_count, entries_end, entry_places, fork_in_entries, padded, data_length}
use Rattle.fork_wrappers.proofs.Cited.{fork_length, data_place, fork_place, least_version, fork_behind, checked_fork, fork_span, with_fork}
use Rattle.fork_wrappers.proofs.Cited.{among_entries, with_padded, behind_header, greatest_fork, remade, rewrapped, IsKept, has_entries}
use Rattle.fork_wrappers.proofs.Cited.{wrapping_of, is_mac_binary, of_wrapper, fork_in, EntriesFault, MacBinaryFault, WrapFault, ForkSpan}
use Rattle.fork_wrappers.proofs.Cited.{Wrapping}
use Rattle.fork_wrappers.specs.declared.fault.WrapFault.TheVariants as fault
use Rattle.fork_wrappers.specs.declared.wrapping.Wrapping.TheVariants as wrapping
use Rattle.fork_wrappers.proofs.Judged.{IsListed, listed, mac_binary_long}
use Rattle.fork_wrappers.proofs.NewEntries.{head_kept, new_count, new_rest, Entries, all_entries}
use Rattle.fork_wrappers.proofs.NewHeaders.{header_kept, fields_kept, data_kept, fork_told, fork_begins, pieces}
use Rattle.fork_wrappers.proofs.Rewraps.{Rewrapping, rewrapping, roomy, padded_made}
use Rattle.fork_wrappers.proofs.Tests.{went_on}

-- What a file keeps that is given another fork.

-- the entries of AppleSingle and AppleDouble
kept_as_is : (file : List ℕ) (places : List ℕ) → AllByRecursion (IsKept file file) places
kept_as_is file [] = tt
kept_as_is file (at ∷ places) = (record { id = refl; named = λ f. refl }, kept_as_is file places)

kept_of : (file : List ℕ) (span : ForkSpan) (fork places : List ℕ) → Entries file span fork places
    → AllByRecursion (IsKept file (with_fork file span fork)) places
kept_of file span fork [] e = tt
kept_of file span fork (at ∷ places) e =
    (record { id = (e.0).id; named = (e.0).other }, kept_of file span fork places e.1)

-- what a file of AppleSingle or AppleDouble keeps, and what it is beside
pub record KeepsEntries (file fork new : List ℕ) : Type 0 where
  pub head : take 24 new ≡ take 24 file
  pub entries : AllByRecursion (IsKept file new) (entry_places file)
  pub count : entry_count new ≡ entry_count file + (fork_span file).more
  pub rest : drop (entries_end new) new ≡ part ((fork_span file).at - entries_end file) (entries_end file) file ++ fork
      ++ drop ((fork_span file).at + (fork_span file).len) file

among : (wrapper : EntriesFault → WrapFault) (file fork old made : List ℕ)
    → of_wrapper wrapper (fork_in_entries file) ≡ Ok old → among_entries file (fork_span file) fork ≡ Ok made
    → KeepsEntries file fork made
among wrapper file fork old made found h = cases (fork_in_entries file) refl found
  where
    span : ForkSpan
    span = fork_span file

    whole : IsListed file → KeepsEntries file fork made
    whole l =
        let r = roomy file fork made l h in
        subst (KeepsEntries file fork) r.1 (record {
          head = head_kept file span fork r.0;
          entries = kept_of file span fork (entry_places file) (all_entries file span fork r.0);
          count = new_count file span fork r.0;
          rest = new_rest file span fork r.0;
        })

    cases : (o : Result (List ℕ) EntriesFault) → fork_in_entries file ≡ o → of_wrapper wrapper o ≡ Ok old
        → KeepsEntries file fork made
    cases (Ok xs) e f = whole (listed file xs e)
    cases (Err why) e f = cc

kept_in : (how : Wrapping) (file fork old made : List ℕ) → has_entries how ≡ true → fork_in how file ≡ Ok old
    → remade how file fork ≡ Ok made → KeepsEntries file fork made
kept_in wrapping.AppleSingle file fork old made e found h = among fault.AppleSingle file fork old made found h
kept_in wrapping.AppleDouble file fork old made e found h = among fault.AppleDouble file fork old made found h
kept_in wrapping.Plain file fork old made e found h = cc
kept_in wrapping.MacBinaryI file fork old made e found h = cc
kept_in wrapping.MacBinaryII file fork old made e found h = cc
kept_in wrapping.MacBinaryIII file fork old made e found h = cc

pub entries_kept : (file fork new : List ℕ) → has_entries (wrapping_of file) ≡ true → rewrapped file fork ≡ Ok new
    → AllByRecursion (IsKept file new) (entry_places file)
entries_kept file fork new e h = cases (rewrapping file fork new h)
  where
    cases : Rewrapping file fork new → AllByRecursion (IsKept file new) (entry_places file)
    cases (inl k) =
        subst (λ xs. AllByRecursion (IsKept file xs) (entry_places file)) (sym k.same) (kept_as_is file (entry_places file))
    cases (inr m) = (kept_in (wrapping_of file) file fork m.old new e m.found m.made).entries

pub start_kept : (file fork new : List ℕ) → has_entries (wrapping_of file) ≡ true → rewrapped file fork ≡ Ok new
    → take 24 new ≡ take 24 file
start_kept file fork new e h = cases (rewrapping file fork new h)
  where
    cases : Rewrapping file fork new → take 24 new ≡ take 24 file
    cases (inl k) = ap (take 24) k.same
    cases (inr m) = (kept_in (wrapping_of file) file fork m.old new e m.found m.made).head

pub changed_entries : (file fork new : List ℕ) → has_entries (wrapping_of file) ≡ true → rewrapped file fork ≡ Ok new
    → new ≢ file → KeepsEntries file fork new
changed_entries file fork new e h other = cases (rewrapping file fork new h)
  where
    cases : Rewrapping file fork new → KeepsEntries file fork new
    cases (inl k) = absurd (other k.same)
    cases (inr m) = kept_in (wrapping_of file) file fork m.old new e m.found m.made

-- what a MacBinary file keeps
pub record KeepsRest (file new : List ℕ) : Type 0 where
  pub head : take 87 new ≡ take 87 file
  pub fields : part 33 91 new ≡ part 33 91 file
  pub contents : part (data_length file) (data_place file) new ≡ part (data_length file) (data_place file) file
  pub rest : drop (fork_place new + padded (fork_length new)) new ≡ drop (fork_place file + padded (fork_length file)) file

data_inside : (file old : List ℕ) → fork_behind file ≡ Ok old → data_place file + data_length file ≤ length file
data_inside file old h =
    ltb-false (length file) (data_place file + data_length file)
    (went_on (nat_lt (length file) (data_place file + data_length file)) _ _ old h).0

checked_inside : (file old : List ℕ) → checked_fork file ≡ Ok old → data_place file + data_length file ≤ length file
checked_inside file old h =
    let a = went_on (not (number 2 124 file == checksum (take 124 file))) _ _ old h in
    let b = went_on (nat_lt 130 (least_version file)) _ _ old a.1 in
    data_inside file old b.1

first_inside : (file old : List ℕ) (o : Result (List ℕ) MacBinaryFault) → fork_behind file ≡ o
    → of_wrapper fault.MacBinary o ≡ Ok old → data_place file + data_length file ≤ length file
first_inside file old (Ok xs) e h = data_inside file xs e
first_inside file old (Err why) e h = cc

second_inside : (file old : List ℕ) (o : Result (List ℕ) MacBinaryFault) → checked_fork file ≡ o
    → of_wrapper fault.MacBinary o ≡ Ok old → data_place file + data_length file ≤ length file
second_inside file old (Ok xs) e h = checked_inside file xs e
second_inside file old (Err why) e h = cc

inside : (how : Wrapping) (file old : List ℕ) → is_mac_binary how ≡ true → fork_in how file ≡ Ok old
    → data_place file + data_length file ≤ length file
inside wrapping.Plain file old e h = cc
inside wrapping.AppleSingle file old e h = cc
inside wrapping.AppleDouble file old e h = cc
inside wrapping.MacBinaryI file old e h = first_inside file old (fork_behind file) refl h
inside wrapping.MacBinaryII file old e h = second_inside file old (checked_fork file) refl h
inside wrapping.MacBinaryIII file old e h = second_inside file old (checked_fork file) refl h

keeps : (how : Wrapping) (file fork made : List ℕ) → 128 ≤ length file → greatest_fork how < 2 ^ 32
    → data_place file + data_length file ≤ length file → behind_header how file fork ≡ Ok made → KeepsRest file made
keeps how file fork made long greatest fits h =
    let m = padded_made how file fork made h in
    let low = m.0 in
    let new : List ℕ = with_padded how file fork in
    let told = fork_told how file fork long (omega (arith, low, greatest)) in
    let begins = fork_begins how file fork long in
    subst (KeepsRest file) m.1 (record {
      head = header_kept how file fork long;
      fields = fields_kept how file fork long;
      contents = data_kept how file fork long fits;
      rest = ap (λ k. drop (k + padded (fork_length new)) new) begins
          ∙ ap (λ k. drop (fork_place file + padded k) new) told ∙ (pieces how file fork long).rest;
    })

keeps_in : (how : Wrapping) (file fork old made : List ℕ) → 128 ≤ length file → is_mac_binary how ≡ true
    → fork_in how file ≡ Ok old → remade how file fork ≡ Ok made → KeepsRest file made
keeps_in wrapping.Plain file fork old made long e found h = cc
keeps_in wrapping.AppleSingle file fork old made long e found h = cc
keeps_in wrapping.AppleDouble file fork old made long e found h = cc
keeps_in wrapping.MacBinaryI file fork old made long e found h =
    keeps wrapping.MacBinaryI file fork made long (omega arith) (inside wrapping.MacBinaryI file old refl found) h
keeps_in wrapping.MacBinaryII file fork old made long e found h =
    keeps wrapping.MacBinaryII file fork made long (omega arith) (inside wrapping.MacBinaryII file old refl found) h
keeps_in wrapping.MacBinaryIII file fork old made long e found h =
    keeps wrapping.MacBinaryIII file fork made long (omega arith) (inside wrapping.MacBinaryIII file old refl found) h

pub rest_kept : (file fork new : List ℕ) → is_mac_binary (wrapping_of file) ≡ true → rewrapped file fork ≡ Ok new
    → KeepsRest file new
rest_kept file fork new e h = cases (rewrapping file fork new h)
  where
    cases : Rewrapping file fork new → KeepsRest file new
    cases (inl k) =
        subst (KeepsRest file) (sym k.same) (record { head = refl; fields = refl; contents = refl; rest = refl })
    cases (inr m) = keeps_in (wrapping_of file) file fork m.old new (mac_binary_long file e) e m.found m.made
