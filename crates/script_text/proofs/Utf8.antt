-- UTF-8 by its test.
use Rattle.script_text.proofs.Cited.{◌≡◌, ℕ, Bool, true, false, List, refl, IsUtf8, is_utf8, IsUtf8-from_is_utf8, is_utf8-from_IsUtf8}

-- bytes that are UTF-8 pass
pub is_text : (bytes : List ℕ) → IsUtf8 bytes → is_utf8 bytes ≡ true
is_text bytes h = is_utf8-from_IsUtf8 bytes h

-- bytes that are not fail
pub is_no_text : (bytes : List ℕ) → ¬ (IsUtf8 bytes) → is_utf8 bytes ≡ false
is_no_text bytes h = cases (is_utf8 bytes) refl
  where
    cases : (t : Bool) → is_utf8 bytes ≡ t → t ≡ false
    cases false e = refl
    cases true e = absurd (h (IsUtf8-from_is_utf8 bytes e))
