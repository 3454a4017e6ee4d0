use Rattle.heap_calls.proofs.Cited.{◌≡◌, ℕ, ◌≤◌, ◌||◌, ◌==◌, Bool, true, false, List, [], ◌∷◌, refl, sym, ◌∙◌, ap, subst, arith, Option}
use Rattle.heap_calls.proofs.Cited.{Some, None, slice_get, Decides-eqb, none-some, OsErr, total, is_relocatable, has, freed, count-none}
use Rattle.heap_calls.proofs.Cited.{unless-le, tidied, freed-is, stands-is, stands-none, locks, State, Memory, Meaning, Handle, Pointer}
use Rattle.heap_calls.proofs.Cited.{Disposed, known_as, released, released_as, is_locked, locked_place, Step, NewFilled, NewEmpty, Refill}
use Rattle.heap_calls.proofs.Cited.{Release, Cast, stepped, walk, refusal, step_disposes, steps_dispose, read_by, put_reads}
use Rattle.heap_calls.proofs.Promises.Knowing.{Known, for_handle, none-handle}
use Rattle.heap_calls.proofs.Promises.LockedLaws.{fewer, some-locked}
use Rattle.heap_calls.proofs.Promises.Taking.{gone-few}
use Rattle.heap_calls.proofs.Steps.Ways.{released-goes}
use Rattle.heap_calls.proofs.Steps.Knowledge.{step-known}

-- What handles that are disposed of leave of locked blocks.

-- the number of a handle's locked blocks
abbrev pub locked_count : ℕ → State → ℕ
locked_count h s = total (locks (is_locked h)) s.zone

pub none-place : (h : ℕ) (s : State) → locked_count h s ≤ 0 → locked_place h s.zone ≡ None
none-place h s few = stands-is (is_locked h) s.zone ∙ stands-none (is_locked h) s.zone few

-- a handle with a locked block has a block
pub locked-there : (h place : ℕ) (s : State) → locked_place h s.zone ≡ Some place
    → has (is_relocatable h) s.zone ≡ true
locked-there h place s is = cases (has (is_relocatable h) s.zone) refl
  where
    cases : (t : Bool) → has (is_relocatable h) s.zone ≡ t → t ≡ true
    cases true e = refl
    cases false e =
        let none = count-none (is_relocatable h) s.zone e in
        let few = fewer h s.zone in
        some-locked h place s.zone is (false ≡ true) (omega arith)

-- a step that is refused lets no handle go
pub refused-lets : (step : Step) (m : Memory) (code : OsErr) → refusal step m ≡ Some code → (h : ℕ)
    → step_disposes step h ≡ false
refused-lets (NewFilled role flags bytes) m code e h = refl
refused-lets (NewEmpty role) m code e h = refl
refused-lets (Refill k flags bytes) m code e h = refl
refused-lets (Release k) m code e h = absurd (none-some code e)
refused-lets (Cast change k) m code e h = refl

-- a handle that is disposed of has no locked block, and another no more than before
released-none : (h : ℕ) (s : State) (bytes : ℕ → List ℕ) → Known s bytes → locked_count h (released h s) ≤ 0
released-none h s bytes known = by_name (slice_get s.names h) refl
  where
    no_handle : for_handle (slice_get s.names h) ≡ false → locked_count h s ≤ 0
    no_handle e =
        let none = none-handle s bytes known h e in
        let few = fewer h s.zone in
        omega arith

    by_name : (o : Option Meaning) → slice_get s.names h ≡ o → locked_count h (released_as (known_as h o) s) ≤ 0
    by_name None e = no_handle (ap for_handle e)
    by_name (Some (Handle role)) e = gone-few h s.zone
    by_name (Some Pointer) e = no_handle (ap for_handle e)
    by_name (Some Disposed) e = no_handle (ap for_handle e)

released-less : (h k : ℕ) (s : State) → locked_count h (released k s) ≤ locked_count h s
released-less h k s = released-goes (λ t. locked_count h t ≤ locked_count h s) k s (omega arith) (λ is.
    let less = unless-le (is_relocatable k) (locks (is_locked h)) s.zone in
    omega (
      arith,
      tidied (locks (is_locked h)) (λ n. refl) (freed (is_relocatable k) s.zone),
      freed-is (locks (is_locked h)) (λ n. refl) (is_relocatable k) s.zone,
    ))

-- handles that are disposed of one after another
abbrev pub releases : List ℕ → List Step
releases [] = []
releases (h ∷ handles) = Release h ∷ releases handles

walk-less : (handles : List ℕ) (h : ℕ) (m : Memory) → locked_count h (walk (releases handles) m).heap
    ≤ locked_count h m.heap
walk-less [] h m = omega arith
walk-less (k ∷ handles) h m =
    let one = released-less h k m.heap in
    let more = walk-less handles h (stepped (Release k) m) in
    omega arith

pub walk-none : (handles : List ℕ) (h : ℕ) (m : Memory) (bytes : ℕ → List ℕ) → Known m.heap bytes
    → steps_dispose (releases handles) h ≡ true → locked_count h (walk (releases handles) m).heap ≤ 0
walk-none [] h m bytes known takes = let f : false ≡ true = takes in cc
walk-none (k ∷ handles) h m bytes known takes = by_number (k == h) refl takes
    (walk-none handles h (stepped (Release k) m) (put_reads (read_by (Release k) m) bytes)
    (step-known (Release k) m bytes known))
  where
    by_number : (t : Bool) → (k == h) ≡ t → (t || steps_dispose (releases handles) h) ≡ true
        → (steps_dispose (releases handles) h ≡ true → locked_count h (walk (releases (k ∷ handles)) m).heap ≤ 0)
        → locked_count h (walk (releases (k ∷ handles)) m).heap ≤ 0
    by_number true e takes later =
        let none = subst (λ (j : ℕ). locked_count h (released j m.heap) ≤ 0) (sym ((Decides-eqb k h).0 e))
        (released-none h m.heap bytes known) in
        let less = walk-less handles h (stepped (Release k) m) in
        omega arith
    by_number false e takes later = later takes
