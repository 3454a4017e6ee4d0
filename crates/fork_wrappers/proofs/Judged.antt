use Rattle.fork_wrappers.proofs.Cited.{◌≡◌, ℕ, ◌≤◌, Bool, true, false, ◌&&◌, not, cond, List, length, refl, ◌==◌, nat_le, nat_lt, Result}
use Rattle.fork_wrappers.proofs.Cited.{Ok, Err, is_ok, list_all, and_parts, leb-true, ltb-false, not-false, number, is_fork}
use Rattle.fork_wrappers.proofs.Cited.{is_apple_single, is_apple_double, is_version_known, entries_end, entry_places, entry_fits}
use Rattle.fork_wrappers.proofs.Cited.{fork_entry, fork_named, fork_in_entries, is_header, is_first, is_second, is_third, wrapping_of}
use Rattle.fork_wrappers.proofs.Cited.{is_mac_binary, of_wrapper, EntriesFault, WrapFault}
use Rattle.fork_wrappers.specs.declared.wrapping.Wrapping.TheVariants as wrapping
use Rattle.fork_wrappers.proofs.Tests.{went_on}

-- What is known of a file in which a fork was found.

-- a file of AppleSingle or AppleDouble whose fork was found
pub record IsListed (file : List ℕ) : Type 0 where
  pub header : 26 ≤ length file
  pub known : is_version_known file ≡ true
  pub list : entries_end file ≤ length file
  pub fits : list_all (entry_fits file) (entry_places file) ≡ true
  pub fork : List ℕ
  pub named : fork_named file (fork_entry file) ≡ Ok fork

pub listed : (file fork : List ℕ) → fork_in_entries file ≡ Ok fork → IsListed file
listed file fork h =
    let a = went_on (nat_lt (length file) 26) _ _ fork h in
    let b = went_on (not (is_version_known file)) _ _ fork a.1 in
    let c = went_on (nat_lt (length file) (entries_end file)) _ _ fork b.1 in
    let d = went_on (not (list_all (entry_fits file) (entry_places file))) _ _ fork c.1 in
    record {
      header = ltb-false (length file) 26 a.0;
      known = not-false _ b.0;
      list = ltb-false (length file) (entries_end file) c.0;
      fits = not-false _ d.0;
      fork = fork;
      named = d.1;
    }

-- a MacBinary file has a header
header_long : (file : List ℕ) → is_header file ≡ true → 128 ≤ length file
header_long file h = leb-true 128 (length file)
    (first (nat_le 128 (length file)) (number 1 0 file == 0) (number 1 74 file == 0) (number 1 82 file == 0)
    (nat_le 1 (number 1 1 file)) (nat_le (number 1 1 file) 63) h)
  where
    first : (a b c d e f : Bool) → (a && b && c && d && e && f) ≡ true → a ≡ true
    first true b c d e f h = refl
    first false b c d e f h = cc

third_long : (file : List ℕ) → is_third file ≡ true → 128 ≤ length file
third_long file h = header_long file (and_parts (is_header file) _ h).0

second_long : (file : List ℕ) → is_second file ≡ true → 128 ≤ length file
second_long file h = header_long file (and_parts (is_header file) _ (and_parts _ _ h).0).0

first_long : (file : List ℕ) → is_first file ≡ true → 128 ≤ length file
first_long file h =
    let old = (and_parts _ _ (and_parts _ _ (and_parts _ _ h).0).0).0 in
    header_long file (and_parts (is_header file) _ (and_parts _ _ (and_parts _ _ old).0).0).0

pub mac_binary_long : (file : List ℕ) → is_mac_binary (wrapping_of file) ≡ true → 128 ≤ length file
mac_binary_long file h = cases (is_fork file) (is_apple_single file) (is_apple_double file) (is_third file) (is_second file)
    (is_first file) (third_long file) (second_long file) (first_long file) h
  where
    cases : (a b c d e f : Bool) → (d ≡ true → 128 ≤ length file) → (e ≡ true → 128 ≤ length file)
        → (f ≡ true → 128 ≤ length file)
        → is_mac_binary (cond a wrapping.Plain (cond b wrapping.AppleSingle (cond c wrapping.AppleDouble
        (cond d wrapping.MacBinaryIII (cond e wrapping.MacBinaryII (cond f wrapping.MacBinaryI wrapping.Plain)))))) ≡ true
        → 128 ≤ length file
    cases true b c d e f x y z h = cc
    cases false true c d e f x y z h = cc
    cases false false true d e f x y z h = cc
    cases false false false true e f x y z h = x refl
    cases false false false false true f x y z h = y refl
    cases false false false false false true x y z h = z refl
    cases false false false false false false x y z h = cc
