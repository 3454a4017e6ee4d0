use Rattle.real_zone.proofs.Cited.{◌≡◌, ℕ, zero, suc, ◌+◌, ◌-◌, ◌<◌, ◌≤◌, true, false, not, cond, List, [], ◌∷◌, Option, Some, None, sym}
use Rattle.real_zone.proofs.Cited.{◌∙◌, ap, arith, ◌==◌, eq-eqb, ne_eqb, cond-false, cond-true, first, broken, master_at, may_be_free}
use Rattle.real_zone.proofs.Cited.{list_damages, Form, Damage}
use Rattle.real_zone.specs.declared.fault.Rule.TheVariants as rule

-- The list of free master pointers, one after the other.

-- the last one is passed
pub list_ends : (f : Form) (zone : ℕ) (bytes : List ℕ) (n address : ℕ) → address ≡ 0
    → list_damages f zone bytes n address ≡ []
unfolding list_damages
list_ends f zone bytes zero address h =
    cond-true (address == 0) [] (broken address rule.EndlessList ∷ []) (eq-eqb address 0 h)
list_ends f zone bytes (suc n) address h =
    cond-true (address == 0) [] (cond (not (may_be_free f bytes (address - zone))) (broken address rule.FreeMaster ∷ [])
    (list_damages f zone bytes n (master_at f bytes (address - zone)))) (eq-eqb address 0 h)

pub list_done : (f : Form) (zone : ℕ) (bytes : List ℕ) (n address : ℕ) (total : Option Damage) → address ≡ 0
    → first (list_damages f zone bytes n address) ≡ total → None ≡ total
list_done f zone bytes n address total h e = ap first (sym (list_ends f zone bytes n address h)) ∙ e

-- a free master pointer, before others
more : (f : Form) (zone : ℕ) (bytes : List ℕ) (n k address : ℕ) → k < n → (address ≡ 0 → ⊥)
    → list_damages f zone bytes (n - k) address
    ≡ cond (not (may_be_free f bytes (address - zone))) (broken address rule.FreeMaster ∷ [])
    (list_damages f zone bytes (n - (k + 1)) (master_at f bytes (address - zone)))
unfolding list_damages
more f zone bytes n k address h some =
    let left : n - k ≡ suc (n - (k + 1)) = omega arith in
    ap (λ m. list_damages f zone bytes m address) left
    ∙ cond-false (address == 0) [] (cond (not (may_be_free f bytes (address - zone))) (broken address rule.FreeMaster ∷ [])
    (list_damages f zone bytes (n - (k + 1)) (master_at f bytes (address - zone)))) (ne_eqb address 0 some)

pub list_goes_on : (f : Form) (zone : ℕ) (bytes : List ℕ) (n k address : ℕ) (total : Option Damage) → k < n
    → (address ≡ 0 → ⊥) → true ≡ may_be_free f bytes (address - zone)
    → first (list_damages f zone bytes (n - k) address) ≡ total
    → first (list_damages f zone bytes (n - (k + 1)) (master_at f bytes (address - zone))) ≡ total
list_goes_on f zone bytes n k address total h some free e =
    ap first (sym (more f zone bytes n k address h some
    ∙ cond-false (not (may_be_free f bytes (address - zone))) (broken address rule.FreeMaster ∷ [])
    (list_damages f zone bytes (n - (k + 1)) (master_at f bytes (address - zone))) (ap not (sym free)))) ∙ e

pub list_stops : (f : Form) (zone : ℕ) (bytes : List ℕ) (n k address : ℕ) (total : Option Damage) → k < n
    → (address ≡ 0 → ⊥) → false ≡ may_be_free f bytes (address - zone)
    → first (list_damages f zone bytes (n - k) address) ≡ total → Some (broken address rule.FreeMaster) ≡ total
list_stops f zone bytes n k address total h some free e =
    ap first (sym (more f zone bytes n k address h some
    ∙ cond-true (not (may_be_free f bytes (address - zone))) (broken address rule.FreeMaster ∷ [])
    (list_damages f zone bytes (n - (k + 1)) (master_at f bytes (address - zone))) (ap not (sym free)))) ∙ e

-- more of them than there can be
pub list_circles : (f : Form) (zone : ℕ) (bytes : List ℕ) (n k address : ℕ) (total : Option Damage) → n ≤ k
    → (address ≡ 0 → ⊥) → first (list_damages f zone bytes (n - k) address) ≡ total
    → Some (broken address rule.EndlessList) ≡ total
unfolding list_damages
list_circles f zone bytes n k address total h some e =
    let none : n - k ≡ zero = omega arith in
    ap first (sym (ap (λ m. list_damages f zone bytes m address) none
    ∙ cond-false (address == 0) [] (broken address rule.EndlessList ∷ []) (ne_eqb address 0 some))) ∙ e
