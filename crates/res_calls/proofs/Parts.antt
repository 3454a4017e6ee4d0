-- A part of what is stored of a resource.
use Rattle.res_calls.proofs.Cited.{◌≡◌, ◌≢◌, ◌≤◌, ℕ, Bool, true, false, if◌then◌else◌, Option, Some, None, length, nat_lt, ◌+◌, refl, arith}
use Rattle.res_calls.proofs.Cited.{ltb-false, IfSome, OsErr, OFFSET, RES_ATTR, TOO_LONG, WRITE_PERMISSION, is_protected, is_system, Found}
use Rattle.res_calls.proofs.Cited.{most_bytes, write_refusal}

-- bytes whose writing is not refused begin within what is stored
pub offset-within : (from n : ℕ) (at : Found) → write_refusal from n at ≡ None
    → from ≤ length at.reference.here.stored.datum
offset-within from n at e =
    let inside = ltb-false (length at.reference.here.stored.datum) from
    (by_tests (is_system at.file.here) (is_protected at.reference.here)
    (nat_lt (length at.reference.here.stored.datum) from) (nat_lt most_bytes (from + n)) e) in
    omega (arith, inside)
  where
    by_tests : (system protected past long : Bool) → (if system then Some WRITE_PERMISSION
        else if protected then Some RES_ATTR else if past then Some OFFSET else if long then Some TOO_LONG else None)
        ≡ None → past ≡ false
    by_tests true protected past long e = cc
    by_tests false true past long e = cc
    by_tests false false true long e = cc
    by_tests false false false long e = refl

-- what holds of whatever is found holds of what is found
pub if_some : {A : Type 0} (P : A → Type 0) (o : Option A) → ((x : A) → o ≡ Some x → P x) → IfSome o P
if_some P None each = tt
if_some P (Some x) each = each x refl

-- where there is no code, there is none
pub no_code : (o : Option OsErr) → ((code : OsErr) → o ≢ Some code) → o ≡ None
no_code None none = refl
no_code (Some code) none = absurd (none code refl)
