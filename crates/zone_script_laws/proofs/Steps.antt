use Rattle.zone_script_laws.proofs.Cited.{◌≡◌, ℕ, ◌<◌, zero, suc, Bool, true, false, List, [], ◌∷◌, ◌++◌, refl, sym, ◌∙◌, ap, cond, subst}
use Rattle.zone_script_laws.proofs.Cited.{Some, None, arith, slice_get, slice_set, bytes_eq, cond-true, cond-false, none-some}
use Rattle.zone_script_laws.proofs.Cited.{bytes_eq-Decides, Told, NO_ERR, Block, State, Memory, Meaning, idle, served, Bindings, bound_to}
use Rattle.zone_script_laws.proofs.Cited.{bind, code_told, Part, Line, name_of, Others, NamesDiffer, Runs, asked_by, bound_by}
use Rattle.zone_script_laws.proofs.Serving.{Serves}

-- Steps of a script, and the names that they bind.

-- a heap where no name is busy
pub record Stands (zone : List Block) (names : List Meaning) (m : Memory) : Type 0 where
  pub heap : m.heap ≡ record { zone = zone; names = names }
  pub calm : m.log.busy ≡ idle

-- a step that is done, and what follows
pub step : (l : Line) (rest : List Line) (m : Memory) (b : Bindings) (holds : Memory → Bindings → Type 0) (reply : Told)
    (after : State) (zone : List Block) (names : List Meaning) → Serves (asked_by l b) m reply after
    → after ≡ record { zone = zone; names = names } → code_told reply ≡ NO_ERR → m.log.busy ≡ idle
    → ((m' : Memory) → Stands zone names m' → Runs rest m' (bound_by l reply b) holds) → Runs (l ∷ rest) m b holds
step l rest m b holds reply after zone names s is done calm next = (
  ap code_told s.told ∙ done,
  subst (λ t. Runs rest (served (asked_by l b) m).1 (bound_by l t b) holds) (sym s.told)
      (next (served (asked_by l b) m).1 (record { heap = s.heap ∙ is; calm = s.idle ∙ calm })),
)

-- a new name is bound after the others
pub bind-new : (name : List ℕ) (n : ℕ) (b : Bindings) → bound_to name b ≡ None → bind name n b ≡ b ++ (name, n) ∷ []
bind-new name n [] none = refl
bind-new name n (x ∷ b) none = cases (bytes_eq name x.0) none (bind-new name n b)
  where
    cases : (t : Bool) → cond t (Some x.1) (bound_to name b) ≡ None
        → (bound_to name b ≡ None → bind name n b ≡ b ++ (name, n) ∷ [])
        → cond t ((x.0, n) ∷ b) (x ∷ bind name n b) ≡ x ∷ (b ++ (name, n) ∷ [])
    cases true e more = absurd (none-some _ (sym e))
    cases false e more = ap (λ l. x ∷ l) (more e)

pub bound-new : (name : List ℕ) (n : ℕ) (b : Bindings) → bound_to name b ≡ None → bound_to name (b ++ (name, n) ∷ []) ≡ Some n
bound-new name n [] none = cond-true (bytes_eq name name) (Some n) None ((bytes_eq-Decides name name).1 refl)
bound-new name n (x ∷ b) none = cases (bytes_eq name x.0) none (bound-new name n b)
  where
    cases : (t : Bool) → cond t (Some x.1) (bound_to name b) ≡ None
        → (bound_to name b ≡ None → bound_to name (b ++ (name, n) ∷ []) ≡ Some n)
        → cond t (Some x.1) (bound_to name (b ++ (name, n) ∷ [])) ≡ Some n
    cases true e more = absurd (none-some _ (sym e))
    cases false e more = more e

pub bound-other : (name other : List ℕ) (n : ℕ) (b : Bindings) → bytes_eq name other ≡ false → bound_to name b ≡ None
    → bound_to name (b ++ (other, n) ∷ []) ≡ None
bound-other name other n [] apart none = cond-false (bytes_eq name other) (Some n) None apart
bound-other name other n (x ∷ b) apart none = cases (bytes_eq name x.0) none (bound-other name other n b apart)
  where
    cases : (t : Bool) → cond t (Some x.1) (bound_to name b) ≡ None
        → (bound_to name b ≡ None → bound_to name (b ++ (other, n) ∷ []) ≡ None)
        → cond t (Some x.1) (bound_to name (b ++ (other, n) ∷ [])) ≡ None
    cases true e more = e
    cases false e more = more e

-- the names of parts, bound to their numbers
abbrev pub bindings : ℕ → List Part → Bindings
bindings n [] = []
bindings n (p ∷ parts) = (name_of p, n) ∷ bindings (suc n) parts

-- none of their names is bound
abbrev pub NoneBound : Bindings → List Part → Type 0
NoneBound b [] = Unit {0}
NoneBound b (p ∷ parts) = (bound_to (name_of p) b ≡ None) × NoneBound b parts

pub none-bound : (parts : List Part) → NoneBound [] parts
none-bound [] = tt
none-bound (p ∷ parts) = (refl, none-bound parts)

pub none-bound-more : (name : List ℕ) (n : ℕ) (b : Bindings) (parts : List Part) → NoneBound b parts → Others name parts
    → NoneBound (b ++ (name, n) ∷ []) parts
none-bound-more name n b [] none apart = tt
none-bound-more name n b (p ∷ parts) none apart =
    (bound-other (name_of p) name n b apart.0 none.0, none-bound-more name n b parts none.1 apart.1)

-- each is bound to its number
abbrev pub AllBound : Bindings → ℕ → List Part → Type 0
AllBound b n [] = Unit {0}
AllBound b n (p ∷ parts) = (bound_to (name_of p) b ≡ Some n) × AllBound b (suc n) parts

all-bound-past : (name : List ℕ) (n k : ℕ) (b : Bindings) (parts : List Part) → AllBound b k parts → Others name parts
    → AllBound ((name, n) ∷ b) k parts
all-bound-past name n k b [] all apart = tt
all-bound-past name n k b (p ∷ parts) all apart = (
  cond-false (bytes_eq (name_of p) name) (Some n) (bound_to (name_of p) b) apart.0 ∙ all.0,
  all-bound-past name n (suc k) b parts all.1 apart.1,
)

pub all-bound : (n : ℕ) (parts : List Part) → NamesDiffer parts → AllBound (bindings n parts) n parts
all-bound n [] differ = tt
all-bound n (p ∷ parts) differ = (
  cond-true (bytes_eq (name_of p) (name_of p)) (Some n) (bound_to (name_of p) (bindings (suc n) parts))
      ((bytes_eq-Decides (name_of p) (name_of p)).1 refl),
  all-bound-past (name_of p) n (suc n) (bindings (suc n) parts) parts (all-bound (suc n) parts differ.1) differ.0,
)

-- what names stand for
pub get-after-set : (names : List Meaning) (i k : ℕ) (x : Meaning) → i < k → slice_get (slice_set names i x) k ≡ slice_get names k
get-after-set [] i k x less = refl
get-after-set (y ∷ names) i zero x less = absurd (omega arith)
get-after-set (y ∷ names) zero (suc k) x less = refl
get-after-set (y ∷ names) (suc i) (suc k) x less = get-after-set names i k x (let z : suc i < suc k = less in omega arith)
