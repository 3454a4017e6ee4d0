use Rattle.heap_calls.proofs.Cited.{◌≡◌, ℕ, zero, suc, Bool, true, false, ◌==◌, List, [], ◌∷◌, ◌++◌, length, refl, sym, ◌∙◌, ap, cond}
use Rattle.heap_calls.proofs.Cited.{arith, Some, None, slice_get, slice_set, Decides-eqb, State, Memory, Plain, Meaning, Handle, Pointer}
use Rattle.heap_calls.proofs.Cited.{Disposed, hoisted, Asked, answered, heap_after, served, resource_meant, resource_role_at, Row, row}
use Rattle.heap_calls.proofs.Cited.{answer_of}
use Rattle.heap_calls.proofs.Promises.Knowing.{pushed}
use Rattle.heap_calls.proofs.Tries.Gating.{served-holds}
use Rattle.heap_calls.proofs.Rows.Effects as effects
use Rattle.heap_calls.proofs.Rows.Effects.{Effect, effect_of, Changes, by-effect, by-quiet}
use Rattle.heap_calls.proofs.Rows.Shapes.{ForPath, Shapes, by-shape, by-kind}
use Rattle.heap_calls.proofs.Rows.Kinds.{has_path, of-path}

-- No call of the Memory Manager makes a resource's handle, changes its role, or disposes of it.

-- a name that is set anew: its number is no resource's, and others are what they were
set-same : (ns : List Meaning) (k : ℕ) (new : Meaning) → resource_meant (Some new) ≡ None
    → resource_meant (slice_get (slice_set ns k new) k) ≡ None
set-same [] k new none = refl
set-same (m ∷ ns) zero new none = none
set-same (m ∷ ns) (suc k) new none = set-same ns k new none

pub set-other : (ns : List Meaning) (k h : ℕ) (new : Meaning) → (k ≡ h → ⊥)
    → slice_get (slice_set ns k new) h ≡ slice_get ns h
set-other [] k h new other = refl
set-other (m ∷ ns) zero zero new other = absurd (other refl)
set-other (m ∷ ns) zero (suc h) new other = refl
set-other (m ∷ ns) (suc k) zero new other = refl
set-other (m ∷ ns) (suc k) (suc h) new other = set-other ns k h new (λ e. other (ap suc e))

pub role-gone : (ns : List Meaning) (k h : ℕ) (new : Meaning) → resource_meant (Some new) ≡ None
    → resource_meant (slice_get (slice_set ns k new) h) ≡ cond (k == h) None (resource_meant (slice_get ns h))
role-gone ns k h new none = cases (k == h) refl
  where
    cases : (t : Bool) → (k == h) ≡ t
        → resource_meant (slice_get (slice_set ns k new) h) ≡ cond t None (resource_meant (slice_get ns h))
    cases true e =
        ap (λ (j : ℕ). resource_meant (slice_get (slice_set ns k new) j)) (sym ((Decides-eqb k h).0 e))
        ∙ set-same ns k new none
    cases false e = ap resource_meant (set-other ns k h new
        (λ same. let f : true ≡ false = sym ((Decides-eqb k h).1 same) ∙ e in cc))

-- a name more
push-other : (ns : List Meaning) (h : ℕ) (new : Meaning) → (length ns ≡ h → ⊥)
    → slice_get (ns ++ new ∷ []) h ≡ slice_get ns h
push-other [] zero new other = absurd (other refl)
push-other [] (suc h) new other = refl
push-other (m ∷ ns) zero new other = refl
push-other (m ∷ ns) (suc h) new other = push-other ns h new (λ e. other (omega (arith, e)))

pub role-new : (ns : List Meaning) (h : ℕ) (new : Meaning)
    → resource_meant (slice_get (ns ++ new ∷ []) h)
    ≡ cond (length ns == h) (resource_meant (Some new)) (resource_meant (slice_get ns h))
role-new ns h new = cases (length ns == h) refl
  where
    cases : (t : Bool) → (length ns == h) ≡ t
        → resource_meant (slice_get (ns ++ new ∷ []) h)
        ≡ cond t (resource_meant (Some new)) (resource_meant (slice_get ns h))
    cases true e =
        ap (λ (j : ℕ). resource_meant (slice_get (ns ++ new ∷ []) j)) (sym ((Decides-eqb (length ns) h).0 e))
        ∙ ap resource_meant (pushed ns new)
    cases false e = ap resource_meant (push-other ns h new
        (λ same. let f : true ≡ false = sym ((Decides-eqb (length ns) h).1 same) ∙ e in cc))

-- neither changes a role where what goes and what comes is no resource's
set-none : (ns : List Meaning) (k h : ℕ) (new : Meaning) → resource_meant (slice_get ns k) ≡ None
    → resource_meant (Some new) ≡ None
    → resource_meant (slice_get (slice_set ns k new) h) ≡ resource_meant (slice_get ns h)
set-none [] k h new was none = refl
set-none (m ∷ ns) zero zero new was none = none ∙ sym was
set-none (m ∷ ns) zero (suc h) new was none = refl
set-none (m ∷ ns) (suc k) zero new was none = refl
set-none (m ∷ ns) (suc k) (suc h) new was none = set-none ns k h new was none

push-none : (ns : List Meaning) (h : ℕ) (new : Meaning) → resource_meant (Some new) ≡ None
    → resource_meant (slice_get (ns ++ new ∷ []) h) ≡ resource_meant (slice_get ns h)
push-none [] zero new none = none
push-none [] (suc h) new none = refl
push-none (m ∷ ns) zero new none = refl
push-none (m ∷ ns) (suc h) new none = push-none ns h new none

-- a heap has the same resources' handles as another, in the same roles
abbrev Keeps : State → State → Type 0
Keeps before after = (h : ℕ) → resource_role_at h after ≡ resource_role_at h before

same-keeps : (s : State) → Keeps s s
same-keeps s h = refl

-- a number that is given is no resource's
given-keeps : (name : Meaning) → resource_meant (Some name) ≡ None → (t : Bool) (s : State) (h : ℕ)
    → resource_meant (slice_get (cond t (s.names ++ name ∷ []) s.names) h) ≡ resource_meant (slice_get s.names h)
given-keeps name none true s h = push-none s.names h name none
given-keeps name none false s h = refl

-- the path of a call leaves the names, or gives such a number
shapes-keep : (a : Asked) (s : State) → Shapes (λ (T : Type 0) d. Keeps s (heap_after d s)) s a
shapes-keep a s = record {
  refuses = λ left T code h. refl;
  makes = λ sp left fits bytes. given-keeps (Handle Plain) refl _ s;
  empties = λ left. given-keeps (Handle Plain) refl _ s;
  points = λ left fits bytes. given-keeps Pointer refl _ s;
  masters = λ left. same-keeps s;
  reserves = λ left p. same-keeps s;
  nowhere = λ left. same-keeps s;
  sizes = λ left handle held e n h. refl;
  pointers = λ left pointer held e n h. refl;
  writes = λ left sp handle held e spares n i x within h. refl;
  replies = λ T U value d keeps. keeps;
  rests = λ T value sp h. refl;
  renews = λ left h n is loose j. refl;
}

path-keeps : (r : Row) (m : Memory) → has_path r ≡ true → ForPath (λ (T : Type 0) d. Keeps m.heap (heap_after d m.heap)) r m.heap
    → Keeps m.heap (answer_of r m).1.heap
path-keeps r m = of-path (λ r. ForPath (λ (T : Type 0) d. Keeps m.heap (heap_after d m.heap)) r m.heap
    → Keeps m.heap (answer_of r m).1.heap) (λ T bar tell does keeps. keeps) (λ left r kept. kept) r

-- an effect leaves them, or takes an application's own handle, or a pointer, away
changes-keep : (e : Effect) (s : State) → Changes (Keeps s) s e
changes-keep (effects.Flagged (Some k) change) s = λ at found h. refl
changes-keep (effects.Hoisted (Some k)) s = λ at found mover h. refl
changes-keep (effects.LockedHigh (Some k)) s = λ at found mover.
    by-effect (Keeps s) (effects.Flagged (Some k) (λ f. record f { locked = true })) (record s { zone = hoisted k s.zone })
    (λ h. refl) (λ at found h. refl)
changes-keep (effects.Disposed (Some k)) s = λ is h. set-none s.names k h Disposed (ap resource_meant is) refl
changes-keep (effects.DisposedPointer (Some p)) s = λ is h. set-none s.names p h Disposed (ap resource_meant is) refl
changes-keep (effects.Emptied (Some k)) s = λ at found mover h. refl
changes-keep (effects.Compacted n) s = λ h. refl
changes-keep (effects.Written call only) s = λ at i x is fits h. refl
changes-keep e s = tt

-- each call's row
row-keeps : (a : Asked) (m : Memory) → Keeps m.heap (answered a m).1.heap
row-keeps a m = by-kind (λ b. Keeps m.heap (answered b m).1.heap)
    (λ b path. path-keeps (row b) m path (by-shape _ m.heap b (shapes-keep b m.heap))) (λ n. same-keeps m.heap)
    (same-keeps m.heap)
    (λ b quiet. by-quiet (Keeps m.heap) b m quiet (same-keeps m.heap) (changes-keep (effect_of b) m.heap)) a

-- a number is a resource's handle after a try just where it was before, in the same role
pub served-roles : (a : Asked) (m : Memory) (h : ℕ)
    → resource_role_at h (served a m).1.heap ≡ resource_role_at h m.heap
served-roles a m h =
    served-holds (λ t n. resource_role_at h n.heap ≡ resource_role_at h m.heap) a m (row-keeps a m h) (λ why kept. refl)
