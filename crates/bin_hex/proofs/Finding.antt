use Rattle.bin_hex.proofs.Cited.{◌≡◌, ℕ, ◌+◌, ◌<◌, ◌≤◌, true, false, ◌&&◌, cond, List, [], ◌∷◌, get_or, length, drop, refl, sym, ◌∙◌, ap}
use Rattle.bin_hex.proofs.Cited.{◌≢◌, Option, Some, None, ◌==◌, starts_with, eq-eqb, ne_eqb, drop-drop, drop_all, drop_more, begins, mark}
use Rattle.bin_hex.proofs.Cited.{after_mark, after_colon}

-- std's test of the beginning is ours
begins_so : (text bytes : List ℕ) → starts_with ◌==◌ bytes text ≡ begins text bytes
begins_so [] bytes = refl
begins_so (wanted ∷ text) [] = refl
begins_so (wanted ∷ text) (byte ∷ bytes) = ap (λ t. wanted == byte && t) (begins_so text bytes)

mark_step : (bytes : List ℕ) (at : ℕ) → at < length bytes
    → after_mark (drop at bytes)
    ≡ cond (begins mark (drop at bytes)) (Some (drop 28 (drop at bytes))) (after_mark (drop (at + 1) bytes))
mark_step bytes at h = rw (drop_more bytes at 0 h) refl

-- the mark stands here
pub mark_here : (bytes : List ℕ) (at : ℕ) (all : Option (List ℕ)) → at < length bytes
    → starts_with ◌==◌ (drop at bytes) mark ≡ true → after_mark (drop at bytes) ≡ all → all ≡ Some (drop (at + 28) bytes)
mark_here bytes at all h there e =
    sym e ∙ mark_step bytes at h
    ∙ ap (λ t. cond t (Some (drop 28 (drop at bytes))) (after_mark (drop (at + 1) bytes)))
    (sym (begins_so mark (drop at bytes)) ∙ there)
    ∙ ap Some (drop-drop 28 at bytes)

-- it does not
pub mark_later : (bytes : List ℕ) (at : ℕ) (all : Option (List ℕ)) → at < length bytes
    → starts_with ◌==◌ (drop at bytes) mark ≡ false → after_mark (drop at bytes) ≡ all
    → after_mark (drop (at + 1) bytes) ≡ all
mark_later bytes at all h there e =
    sym (ap (λ t. cond t (Some (drop 28 (drop at bytes))) (after_mark (drop (at + 1) bytes)))
    (sym (begins_so mark (drop at bytes)) ∙ there))
    ∙ sym (mark_step bytes at h) ∙ e

colon_step : (bytes : List ℕ) (at : ℕ) → at < length bytes
    → after_colon (drop at bytes)
    ≡ cond (get_or bytes at 0 == 58) (Some (drop (at + 1) bytes)) (after_colon (drop (at + 1) bytes))
colon_step bytes at h = rw (drop_more bytes at 0 h) refl

-- a colon stands here
pub colon_here : (bytes : List ℕ) (at : ℕ) (all : Option (List ℕ)) → at < length bytes → get_or bytes at 0 ≡ 58
    → after_colon (drop at bytes) ≡ all → all ≡ Some (drop (at + 1) bytes)
colon_here bytes at all h there e =
    sym e ∙ colon_step bytes at h
    ∙ ap (λ t. cond t (Some (drop (at + 1) bytes)) (after_colon (drop (at + 1) bytes))) (eq-eqb (get_or bytes at 0) 58 there)

-- it does not
pub colon_later : (bytes : List ℕ) (at : ℕ) (all : Option (List ℕ)) → at < length bytes → get_or bytes at 0 ≢ 58
    → after_colon (drop at bytes) ≡ all → after_colon (drop (at + 1) bytes) ≡ all
colon_later bytes at all h there e =
    sym (ap (λ t. cond t (Some (drop (at + 1) bytes)) (after_colon (drop (at + 1) bytes)))
    (ne_eqb (get_or bytes at 0) 58 there)) ∙ sym (colon_step bytes at h) ∙ e

-- nothing is left
pub no_mark : (bytes : List ℕ) (at : ℕ) (all : Option (List ℕ)) → length bytes ≤ at
    → after_mark (drop at bytes) ≡ all → all ≡ None
no_mark bytes at all h e = sym e ∙ ap after_mark (drop_all at bytes h)

pub no_colon : (bytes : List ℕ) (at : ℕ) (all : Option (List ℕ)) → length bytes ≤ at
    → after_colon (drop at bytes) ≡ all → all ≡ None
no_colon bytes at all h e = sym e ∙ ap after_colon (drop_all at bytes h)
