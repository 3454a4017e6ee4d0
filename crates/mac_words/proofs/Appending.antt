use Rattle.std.proofs.Common.{◌≡◌, ◌++◌, ◌∙◌, ℕ, List, [], Option, Some, None, refl, sym, ap, append_assoc, append-nil}
use Rattle.std.specs.Io.KnownBytes.{append_known}

-- Texts that are appended one after the other.

pub also : (t a b : List ℕ) {t1 t2 : List ℕ} → t1 ≡ t ++ a → t2 ≡ t1 ++ b → t2 ≡ t ++ (a ++ b)
also t a b one other = other ∙ ap (λ x. x ++ b) one ∙ append_assoc t a b

-- The same where it is known, or not, what stands there: no text, and one after another.

pub known-nil : (known : Option (List ℕ)) → known ≡ append_known known []
known-nil None = refl
known-nil (Some text) = ap Some (sym (append-nil text))

pub known-append : (known : Option (List ℕ)) (first next : List ℕ)
    → append_known (append_known known first) next ≡ append_known known (first ++ next)
known-append None first next = refl
known-append (Some text) first next = ap Some (append_assoc text first next)
