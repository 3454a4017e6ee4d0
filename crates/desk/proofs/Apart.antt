use Rattle.desk.proofs.Cited.{◌≡◌, ◌≢◌, ℕ, Option, Some, None, Result, Ok, Err, List, [], ◌∷◌, slice_get, slice_set, refl, ap, zero, suc}
use Rattle.desk.proofs.Cited.{OsErr, Act, Live, Running, Place, State, coming, place_come, acted_in, acted_at, launch_answer, launched_by}
use Rattle.desk.proofs.Cited.{launched_in, launched_at}

-- Applications have nothing to do with one another.

-- one place is changed, and another isn't
other-place : (places : List Place) (i j : ℕ) (q : Place) → i ≢ j
    → slice_get (slice_set places i q) j ≡ slice_get places j
other-place [] i j q apart = refl
other-place (p ∷ places) zero zero q apart = absurd (apart refl)
other-place (p ∷ places) zero (suc j) q apart = refl
other-place (p ∷ places) (suc i) zero q apart = refl
other-place (p ∷ places) (suc i) (suc j) q apart = other-place places i j q (λ same. apart (ap suc same))

acted-other : (act : Act) (i j : ℕ) (o : Option Place) (s : State) → i ≢ j
    → slice_get (acted_in act i o s).places j ≡ slice_get s.places j
acted-other act i j None s apart = refl
acted-other act i j (Some p) s apart = other-place s.places i j (place_come p (coming act p)) apart

pub acted_elsewhere : (act : Act) (i j : ℕ) (s : State) → i ≢ j
    → slice_get (acted_at act i s).places j ≡ slice_get s.places j
acted_elsewhere act i j s apart = acted-other act i j (slice_get s.places i) s apart

answered-other : (answer : Result Live OsErr) (i j : ℕ) (p : Place) (s : State) → i ≢ j
    → slice_get (launched_by answer i p s).places j ≡ slice_get s.places j
answered-other (Err code) i j p s apart = refl
answered-other (Ok live) i j p s apart = other-place s.places i j (record p { phase = Running live }) apart

launched-other : (i j : ℕ) (o : Option Place) (s : State) → i ≢ j
    → slice_get (launched_in i o s).places j ≡ slice_get s.places j
launched-other i j None s apart = refl
launched-other i j (Some p) s apart = answered-other (launch_answer p s) i j p s apart

pub launched_elsewhere : (i j : ℕ) (s : State) → i ≢ j → slice_get (launched_at i s).places j ≡ slice_get s.places j
launched_elsewhere i j s apart = launched-other i j (slice_get s.places i) s apart
