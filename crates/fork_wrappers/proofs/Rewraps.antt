use Rattle.fork_wrappers.proofs.Cited.{◌≡◌, ℕ, ◌+◌, ◌≤◌, Bool, true, false, not, cond, List, [], ◌∷◌, length, take, refl, sym, ◌∙◌, ap}
use Rattle.fork_wrappers.proofs.Cited.{subst, arith, rules, ◌⊎◌, inl, inr, ◌==◌, nat_le, nat_lt, bytes_eq, filter, Result, Ok, Err, is_ok}
use Rattle.fork_wrappers.proofs.Cited.{list_all, and_parts, leb-true, ltb-true, ltb-false, not-false, cond-true, cond-false}
use Rattle.fork_wrappers.proofs.Cited.{bytes_eq-Decides, checksum, big_bytes, number, entry_count, entries_end, entry_places, entry_fits}
use Rattle.fork_wrappers.proofs.Cited.{is_fork_entry, fork_entry, fork_in_entries, least_version, fork_behind, checked_fork, AreBytes}
use Rattle.fork_wrappers.proofs.Cited.{span_of, fork_span, are_clear, is_entries_file, with_fork, among_entries, greatest_fork, new_fields}
use Rattle.fork_wrappers.proofs.Cited.{new_checksum, with_padded, behind_header, remade, same_wrapping, recognized, placed, replaced}
use Rattle.fork_wrappers.proofs.Cited.{rewrapped, Refuses, wrapping_of, is_mac_binary, of_wrapper, fork_in, unwrapped, EntriesFault}
use Rattle.fork_wrappers.proofs.Cited.{MacBinaryFault, RewrapFault, WrapFault, ForkSpan, Wrapping}
use Rattle.std.specs.Prelude.{Option, Some, None}
use Rattle.fork_wrappers.specs.declared.fault.RewrapFault.TheVariants as rewrap_fault
use Rattle.fork_wrappers.specs.declared.fault.WrapFault.TheVariants as fault
use Rattle.fork_wrappers.specs.declared.wrapping.Wrapping.TheVariants as wrapping
use Rattle.fork_wrappers.proofs.FoundAgain.{found_again}
use Rattle.fork_wrappers.proofs.Judged.{IsListed, listed, mac_binary_long}
use Rattle.fork_wrappers.proofs.NewEntries.{Roomy}
use Rattle.fork_wrappers.proofs.NewHeaders.{found_behind, found_checked}
use Rattle.fork_wrappers.proofs.Walking.{only_one}
use Rattle.fork_wrappers.proofs.Tests.{went_on}

-- What is known of a file that was given another fork.

-- what was made
is_made : {F : Type 0} (a b : List ℕ) (r : Result (List ℕ) F) → r ≡ Ok a → r ≡ Ok b → a ≡ b
is_made a b r g h = cc

same_is : (a b : Wrapping) → same_wrapping a b ≡ true → a ≡ b
same_is wrapping.Plain wrapping.Plain h = refl
same_is wrapping.AppleSingle wrapping.AppleSingle h = refl
same_is wrapping.AppleDouble wrapping.AppleDouble h = refl
same_is wrapping.MacBinaryI wrapping.MacBinaryI h = refl
same_is wrapping.MacBinaryII wrapping.MacBinaryII h = refl
same_is wrapping.MacBinaryIII wrapping.MacBinaryIII h = refl
same_is _ _ h = cc

-- what is said of all entries holds of the fork's
at_entry : (p t : ℕ → Bool) (xs : List ℕ) (at : ℕ) → filter p xs ≡ at ∷ [] → list_all t xs ≡ true → t at ≡ true
at_entry p t [] at h all = cc
at_entry p t (x ∷ xs) at h all = cases (λ e. at_entry p t xs at e both.1) (p x) h
  where
    both : (t x ≡ true) × (list_all t xs ≡ true)
    both = and_parts (t x) (list_all t xs) all

    cases : (filter p xs ≡ at ∷ [] → t at ≡ true) → (b : Bool) → cond b (x ∷ filter p xs) (filter p xs) ≡ at ∷ []
        → t at ≡ true
    cases later true e = let same : x ≡ at = cc in ap t (sym same) ∙ both.0
    cases later false e = later e

-- where the fork stands
span_fits : (file : List ℕ) (o : Result (Option ℕ) EntriesFault) → fork_entry file ≡ o → IsListed file
    → ((span_of file o).at + (span_of file o).len ≤ length file) × ((span_of file o).more ≤ 1)
span_fits file (Ok (Some at)) e l =
    let only = only_one (filter (is_fork_entry file) (entry_places file)) (Some at) e in
    let fits = at_entry (is_fork_entry file) (entry_fits file) (entry_places file) at (sym only) l.fits in
    (leb-true (number 4 (at + 4) file + number 4 (at + 8) file) (length file) fits, omega arith)
span_fits file (Ok None) e l = (omega arith, omega arith)
span_fits file (Err why) e l = (omega arith, omega arith)

-- the fork is found again in a file of AppleSingle or AppleDouble
pub roomy : (file fork made : List ℕ) → IsListed file → among_entries file (fork_span file) fork ≡ Ok made
    → Roomy file (fork_span file) (length fork) × (with_fork file (fork_span file) fork ≡ made)
roomy file fork made l h =
    let span : ForkSpan = fork_span file in
    let a = went_on (not (are_clear file span)) _ _ made h in
    let b = went_on (not (is_entries_file file span (length fork))) _ _ made a.1 in
    let clear = and_parts (nat_le (entries_end file) span.at) _ (not-false (are_clear file span) a.0) in
    let small = and_parts (nat_lt (entry_count file + span.more) 65536) _ (not-false _ b.0) in
    let fits = span_fits file (fork_entry file) refl l in (
      record {
        header = l.header;
        list = leb-true (entries_end file) span.at clear.0;
        inside = fits.0;
        more = fits.1;
        count = ltb-true (entry_count file + span.more) 65536 small.0;
        whole = ltb-true _ 4294967296 small.1;
        fits = l.fits;
        clear = clear.1;
      },
      is_made _ made _ refl b.1,
    )

among : (wrapper : EntriesFault → WrapFault) (file fork old made : List ℕ)
    → of_wrapper wrapper (fork_in_entries file) ≡ Ok old → among_entries file (fork_span file) fork ≡ Ok made
    → of_wrapper wrapper (fork_in_entries made) ≡ Ok fork
among wrapper file fork old made found h = cases (fork_in_entries file) refl found
  where
    whole : IsListed file → of_wrapper wrapper (fork_in_entries made) ≡ Ok fork
    whole l =
        let r = roomy file fork made l h in
        ap (λ xs. of_wrapper wrapper (fork_in_entries xs)) (sym r.1)
        ∙ ap (of_wrapper wrapper) (found_again file fork l.fork l.named r.0 l.known)

    cases : (o : Result (List ℕ) EntriesFault) → fork_in_entries file ≡ o → of_wrapper wrapper o ≡ Ok old
        → of_wrapper wrapper (fork_in_entries made) ≡ Ok fork
    cases (Ok xs) e f = whole (listed file xs e)
    cases (Err why) e f = cc

-- and in one of MacBinary
pub padded_made : (how : Wrapping) (file fork made : List ℕ) → behind_header how file fork ≡ Ok made
    → (length fork ≤ greatest_fork how) × (with_padded how file fork ≡ made)
padded_made how file fork made h =
    let a = went_on (nat_lt (greatest_fork how) (length fork)) _ _ made h in
    (ltb-false (greatest_fork how) (length fork) a.0, is_made _ made _ refl a.1)

behind : (file fork made : List ℕ) → 128 ≤ length file → behind_header wrapping.MacBinaryI file fork ≡ Ok made
    → of_wrapper fault.MacBinary (fork_behind made) ≡ Ok fork
behind file fork made long h =
    let m = padded_made wrapping.MacBinaryI file fork made h in
    let small = m.0 in
    ap (λ xs. of_wrapper fault.MacBinary (fork_behind xs)) (sym m.1)
    ∙ ap (of_wrapper fault.MacBinary) (found_behind wrapping.MacBinaryI file fork long (omega (arith, small)))

readable : (file old : List ℕ) → of_wrapper fault.MacBinary (checked_fork file) ≡ Ok old → least_version file ≤ 130
readable file old h = cases (checked_fork file) refl h
  where
    cases : (o : Result (List ℕ) MacBinaryFault) → checked_fork file ≡ o → of_wrapper fault.MacBinary o ≡ Ok old
        → least_version file ≤ 130
    cases (Err why) e f = cc
    cases (Ok xs) e f =
        let a = went_on (not (number 2 124 file == checksum (take 124 file))) _ _ xs e in
        let b = went_on (nat_lt 130 (least_version file)) _ _ xs a.1 in
        ltb-false 130 (least_version file) b.0

checked : (how : Wrapping) (file fork old made : List ℕ) → 128 ≤ length file → AreBytes file
    → new_checksum how file (new_fields file (length fork)) ≡ big_bytes 2 (checksum (new_fields file (length fork)))
    → greatest_fork how ≡ 0xFFFFFFFF → of_wrapper fault.MacBinary (checked_fork file) ≡ Ok old
    → behind_header how file fork ≡ Ok made → of_wrapper fault.MacBinary (checked_fork made) ≡ Ok fork
checked how file fork old made long bytes sum greatest found h =
    let m = padded_made how file fork made h in
    let small = m.0 in
    ap (λ xs. of_wrapper fault.MacBinary (checked_fork xs)) (sym m.1) ∙ ap (of_wrapper fault.MacBinary)
    (found_checked how file fork long (omega (arith, small, greatest)) bytes sum (readable file old found))

found_in : (how : Wrapping) (file fork old made : List ℕ) → AreBytes file → how ≡ wrapping_of file
    → fork_in how file ≡ Ok old → remade how file fork ≡ Ok made → fork_in how made ≡ Ok fork
found_in wrapping.Plain file fork old made bytes is found h = ap Ok (sym (is_made fork made (Ok fork) refl h))
found_in wrapping.AppleSingle file fork old made bytes is found h = among fault.AppleSingle file fork old made found h
found_in wrapping.AppleDouble file fork old made bytes is found h = among fault.AppleDouble file fork old made found h
found_in wrapping.MacBinaryI file fork old made bytes is found h =
    behind file fork made (mac_binary_long file (ap is_mac_binary (sym is))) h
found_in wrapping.MacBinaryII file fork old made bytes is found h =
    checked wrapping.MacBinaryII file fork old made (mac_binary_long file (ap is_mac_binary (sym is))) bytes refl refl found h
found_in wrapping.MacBinaryIII file fork old made bytes is found h =
    checked wrapping.MacBinaryIII file fork old made (mac_binary_long file (ap is_mac_binary (sym is))) bytes refl refl found h

-- a file that was rewrapped is either the file itself, which held the fork, or was made
pub record Held (file fork new : List ℕ) : Type 0 where
  pub same : new ≡ file
  pub held : unwrapped file ≡ Ok fork

pub record Made (file fork new : List ℕ) : Type 0 where
  pub old : List ℕ
  pub found : unwrapped file ≡ Ok old
  pub how : wrapping_of new ≡ wrapping_of file
  pub made : remade (wrapping_of file) file fork ≡ Ok new

abbrev pub Rewrapping : (file fork new : List ℕ) → Type 0
Rewrapping file fork new = Held file fork new ⊎ Made file fork new

pub rewrapping : (file fork new : List ℕ) → rewrapped file fork ≡ Ok new → Rewrapping file fork new
rewrapping file fork new h = cases (unwrapped file) refl h
  where
    took : (old : List ℕ) → unwrapped file ≡ Ok old → (t : Bool) → bytes_eq old fork ≡ t
        → cond t (Ok file) (recognized (wrapping_of file) (remade (wrapping_of file) file fork)) ≡ Ok new
        → Rewrapping file fork new
    took old found true e h =
        inl (record { same = sym (is_made file new _ refl h); held = found ∙ ap Ok ((bytes_eq-Decides old fork).0 e) })
    took old found false e h = judged (remade (wrapping_of file) file fork) refl h
      where
        last : (made : List ℕ) → remade (wrapping_of file) file fork ≡ Ok made → (t : Bool)
            → same_wrapping (wrapping_of made) (wrapping_of file) ≡ t
            → cond t (Ok made) (Err rewrap_fault.Unrecognized) ≡ Ok new → Rewrapping file fork new
        last made m true e h =
            let is = is_made made new _ refl h in
            inr (record {
              old = old;
              found = found;
              how = ap wrapping_of (sym is) ∙ same_is (wrapping_of made) (wrapping_of file) e;
              made = m ∙ ap Ok is;
            })
        last made m false e h = cc

        judged : (o : Result (List ℕ) RewrapFault) → remade (wrapping_of file) file fork ≡ o
            → recognized (wrapping_of file) o ≡ Ok new → Rewrapping file fork new
        judged (Ok made) m h = last made m (same_wrapping (wrapping_of made) (wrapping_of file)) refl h
        judged (Err why) m h = cc

    cases : (o : Result (List ℕ) WrapFault) → unwrapped file ≡ o → replaced o file fork ≡ Ok new
        → Rewrapping file fork new
    cases (Ok old) found h = took old found (bytes_eq old fork) refl h
    cases (Err why) found h = cc

-- the file is wrapped as it was, and the new fork is found in it
pub wrapped_alike : (file fork new : List ℕ) → rewrapped file fork ≡ Ok new → wrapping_of new ≡ wrapping_of file
wrapped_alike file fork new h = cases (rewrapping file fork new h)
  where
    cases : Rewrapping file fork new → wrapping_of new ≡ wrapping_of file
    cases (inl k) = ap wrapping_of k.same
    cases (inr m) = m.how

pub found_rewrapped : (file fork new : List ℕ) → AreBytes file → rewrapped file fork ≡ Ok new → unwrapped new ≡ Ok fork
found_rewrapped file fork new bytes h = cases (rewrapping file fork new h)
  where
    cases : Rewrapping file fork new → unwrapped new ≡ Ok fork
    cases (inl k) = ap unwrapped k.same ∙ k.held
    cases (inr m) =
        ap (λ w. fork_in w new) m.how ∙ found_in (wrapping_of file) file fork m.old new bytes refl m.found m.made

-- with its own fork a file stays as it is
pub stays : (file fork : List ℕ) → unwrapped file ≡ Ok fork → rewrapped file fork ≡ Ok file
stays file fork h = ap (λ o. replaced o file fork) h ∙ cond-true (bytes_eq fork fork) _ _ (bytes_same fork)
  where
    bytes_same : (xs : List ℕ) → bytes_eq xs xs ≡ true
    bytes_same xs = search (rules, bytes_eq-Decides)

-- the cases of the definition, as the code meets them
pub found_header : (how : Wrapping) (file : List ℕ) → how ≡ wrapping_of file → is_mac_binary how ≡ true
    → 128 ≤ length file
found_header how file is h = mac_binary_long file (ap is_mac_binary (sym is) ∙ h)

pub is_placed : (how : Wrapping) (file fork old : List ℕ) → how ≡ wrapping_of file → unwrapped file ≡ Ok old
    → rewrapped file fork ≡ placed how old file fork
is_placed how file fork old is h = ap (λ o. replaced o file fork) h ∙ ap (λ w. placed w old file fork) (sym is)

pub is_recognized : (how : Wrapping) (o : Result (List ℕ) RewrapFault) (made : List ℕ) (t : Bool) → o ≡ Ok made
    → same_wrapping (wrapping_of made) how ≡ t → recognized how o ≡ cond t (Ok made) (Err rewrap_fault.Unrecognized)
is_recognized how o made t e same = ap (recognized how) e
    ∙ ap (λ t. cond t (Ok made) (Err rewrap_fault.Unrecognized)) same

pub is_made_among : (file fork out : List ℕ) (span : ForkSpan) → span ≡ fork_span file → are_clear file span ≡ true
    → is_entries_file file span (length fork) ≡ true → out ≡ with_fork file span fork
    → among_entries file (fork_span file) fork ≡ Ok out
is_made_among file fork out span is clear small e =
    subst (λ s. among_entries file s fork ≡ Ok out) is (cond-false (not (are_clear file span)) _ _ (ap not clear)
    ∙ cond-false (not (is_entries_file file span (length fork))) _ _ (ap not small) ∙ ap Ok (sym e))

-- a refusal of what is to be made is one of the whole
pub is_refused : (how : Wrapping) (file fork : List ℕ) (why : RewrapFault) → Refuses why (remade how file fork)
    → Refuses why (recognized how (remade how file fork))
is_refused how file fork why refused = cases why refused
  where
    by_fault : (why : RewrapFault) → remade how file fork ≡ Err why → recognized how (remade how file fork) ≡ Err why
    by_fault why e = ap (recognized how) e

    cases : (why : RewrapFault) → Refuses why (remade how file fork) → Refuses why (recognized how (remade how file fork))
    cases rewrap_fault.HostMemory e = tt
    cases (rewrap_fault.Damaged w) e = by_fault (rewrap_fault.Damaged w) e
    cases rewrap_fault.Overlap e = by_fault rewrap_fault.Overlap e
    cases rewrap_fault.TooLong e = by_fault rewrap_fault.TooLong e
    cases rewrap_fault.Unrecognized e = by_fault rewrap_fault.Unrecognized e
