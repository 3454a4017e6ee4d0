-- A text as bytes in Mac OS Roman, by whether it is UTF-8.
use Rattle.rez_text.proofs.Cited.{◌≡◌, ℕ, ◌+◌, Bool, true, false, cond, Ok, Err, List, take, refl, sym, ap, ◌∙◌, is_utf8-from_IsUtf8}
use Rattle.rez_text.proofs.Cited.{IsUtf8-from_is_utf8, IsUtf8, is_utf8, chars, utf8_valid_len, to_roman, decoded, last_line, with_line}
use Rattle.rez_text.specs.declared.fault.FaultKind.TheVariants as faults

pub decoded_utf8 : (text made : List ℕ) → made ≡ text → IsUtf8 text → with_line (chars made) (to_roman made) ≡ decoded text
decoded_utf8 text made is coded =
    ap (λ t. with_line (chars t) (to_roman t)) is
    ∙ sym (ap (λ t. cond t (with_line (chars text) (to_roman text))
    (Err (last_line 1 0 (take (utf8_valid_len text + 1) text), faults.NotUtf8))) (is_utf8-from_IsUtf8 text coded))

pub decoded_other : (text : List ℕ) (line n : ℕ) → (IsUtf8 text → ⊥) → n ≡ utf8_valid_len text
    → line ≡ last_line 1 0 (take (n + 1) text) → decoded text ≡ Err (line, faults.NotUtf8)
decoded_other text line n other valid on = cases (is_utf8 text) refl
  where
    cases : (t : Bool) → is_utf8 text ≡ t
        → cond t (with_line (chars text) (to_roman text)) (Err (last_line 1 0 (take (utf8_valid_len text + 1) text), faults.NotUtf8))
        ≡ Err (line, faults.NotUtf8)
    cases true h = absurd (other (IsUtf8-from_is_utf8 text h))
    cases false h =
        ap (λ m. Err (m, faults.NotUtf8)) (sym (on ∙ ap (λ m. last_line 1 0 (take (m + 1) text)) valid))
