use Rattle.fork_rules.proofs.Cited.{◌≡◌, ℕ, List, [], ◌++◌, true, None, Some, refl, ◌∙◌, ap, subst, is_fork, content_of, IsUnspelled}
use Rattle.fork_rules.proofs.Cited.{Broken, broken, damaged_text, form_text, whole_text, why_text}

-- A fork spells a content, and has bytes.

pub spelled : (bytes : List ℕ) → is_fork bytes ≡ true → IsUnspelled bytes → ⊥
spelled bytes h none = none (content_of bytes) (record { fork = h; content = refl })

-- what damaged bytes are, and what others are
pub damaged : (bytes text new : List ℕ) (b : Broken) → Some b ≡ broken bytes → new ≡ text ++ damaged_text b
    → new ≡ text ++ why_text bytes
damaged bytes text new b is e = e ∙ ap (λ o. text ++ whole_text o bytes) is

pub undamaged : (bytes text new : List ℕ) → None ≡ broken bytes → new ≡ text ++ form_text (content_of bytes) bytes
    → new ≡ text ++ why_text bytes
undamaged bytes text new is e = e ∙ ap (λ o. text ++ whole_text o bytes) is
