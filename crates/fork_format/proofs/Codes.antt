use Rattle.fork_format.proofs.Cited.{◌≡◌, ◌≢◌, ℕ, Bool, true, false, Some, Result, Ok, Err, List, [], ◌∷◌, length, refl, ap, ◌∙◌, arith}
use Rattle.fork_format.proofs.Cited.{ne_eqb, OsErr, MAP_READ, ForkFault, Empty, BadMap, HostMemory, read_code, content_or_code, Content}
use Rattle.fork_format.proofs.Cited.{is_fork, content_of, Spells, IsUnspelled}
use Rattle.std.proofs.Common.{◌↔◌}

-- The content of a fork, or the result code for which it can't be read.

-- bytes that spell a content have it
pub spelled : (bytes : List ℕ) (c : Content) → Spells bytes c → content_or_code bytes ≡ Ok c
spelled [] c spells = absurd (let no : is_fork [] ≡ true = spells.fork in cc)
spelled (b ∷ bytes) c spells =
    rw (ne_eqb (length (b ∷ bytes)) 0 (λ e. omega (arith, e)), spells.fork) (ap Ok spells.content)

-- bytes that spell nothing have no content
pub unspelled : (bytes : List ℕ) → bytes ≢ [] → IsUnspelled bytes → content_or_code bytes ≡ Err MAP_READ
unspelled [] some none = absurd (some refl)
unspelled (b ∷ bytes) some none = cases (is_fork (b ∷ bytes)) refl
  where
    cases : (t : Bool) → is_fork (b ∷ bytes) ≡ t → content_or_code (b ∷ bytes) ≡ Err MAP_READ
    cases true is = absurd (none (content_of (b ∷ bytes)) (record { fork = is; content = refl }))
    cases false is = rw (ne_eqb (length (b ∷ bytes)) 0 (λ e. omega (arith, e)), is) refl

-- the code of the fault with which a reader refuses bytes
pub refused : {A : Type 0} (bytes : List ℕ) (result : Result A ForkFault) (fault : ForkFault) (code : OsErr)
    → ((result ≡ Err Empty) ↔ (bytes ≡ [])) → ((result ≡ Err BadMap) ↔ ((bytes ≢ []) × IsUnspelled bytes))
    → result ≡ Err fault → read_code fault ≡ Some code → content_or_code bytes ≡ Err code
refused bytes result Empty code empty bad is its = rw (empty.0 is) cc
refused bytes result BadMap code empty bad is its =
    let none = bad.0 is in unspelled bytes none.0 none.1 ∙ cc
refused bytes result HostMemory code empty bad is its = cc
