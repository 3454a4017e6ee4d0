use Rattle.heap_calls.proofs.Cited.{◌≡◌, ℕ, ◌≤◌, Bool, true, false, List, [], ◌∷◌, refl, arith, or_parts, Block, Free, total, count}
use Rattle.heap_calls.proofs.Cited.{is_masters, is_purgeable, is_relocatable, with_content, has, State, Memory, nothing, has_purgeable}
use Rattle.heap_calls.proofs.Cited.{Step, NewFilled, NewEmpty, Refill, Release, Cast, stepped, walk, step_disposes, steps_dispose, Weighs}
use Rattle.heap_calls.proofs.Cited.{keeps, only-purgeable, and_parts}
use Rattle.heap_calls.proofs.Promises.EmptyingLaws.{Unseen, of-gone, stays, stays-goes}
use Rattle.heap_calls.proofs.Promises.EmptyingLaws.{stays-filled, stays-other, stays-all, stays-le, still-there}
use Rattle.heap_calls.proofs.Promises.EmptyingLaws.{masters, masters-goes, masters-filled}
use Rattle.heap_calls.proofs.Promises.EmptyingLaws.{masters-handle}
use Rattle.heap_calls.proofs.Steps.Ways.{path_of, Puts, step-along, Lets, step-leaves}

-- Which blocks are there after steps on a heap: each that may not be purged, and all of master pointers.

-- a step lets only blocks go that come to nothing
abbrev pub Spares : (Block → ℕ) → Step → Type 0
Spares of (NewFilled role flags bytes) = Unit {0}
Spares of (NewEmpty role) = Unit {0}
Spares of (Refill h flags bytes) = Unit {0}
Spares of (Release h) = Unseen of (is_relocatable h)
Spares of (Cast change h) = Unit {0}

-- any measure allows what a step puts
pub weighs : (of : Block → ℕ) (step : Step) (s : State) → Puts (Weighs of) step s
weighs of (NewFilled role flags bytes) s = λ z. tt
weighs of (Refill h flags bytes) s = λ none z. tt
weighs of step s = tt

module _ (of : Block → ℕ) (none : (n : ℕ) → of (Free n) ≡ 0)
    (goes : (b : Block) → is_purgeable b ≡ true → of b ≡ 0)
    (filled : (x : List ℕ) (b : Block) → of b ≡ of (with_content x b))
  where
    lets : (step : Step) (s : State) → Spares of step → Lets (λ z. total of s.zone ≤ total of z) step s
    lets (Release h) s spares = of-gone of none filled (is_relocatable h) spares s.zone
    lets step s spares = tt

    pub rises-stepped : (step : Step) (m : Memory) → Spares of step
        → total of m.heap.zone ≤ total of (stepped step m).heap.zone
    rises-stepped step m spares =
        let zone = m.heap.zone in
        let path = path_of step m.heap in
        step-leaves (λ z. total of zone ≤ total of z) step m (omega (
          arith,
          keeps of none nothing path zone (step-along (Weighs of) (λ n z. tt) (λ k z. tt) (λ z. tt) step m.heap
              (weighs of step m.heap)),
          only-purgeable of none nothing (λ b may. goes b (and_parts (is_purgeable b) true may).0) path zone,
        )) (lets step m.heap spares)

masters-spared : (step : Step) → Spares masters step
masters-spared (NewFilled role flags bytes) = tt
masters-spared (NewEmpty role) = tt
masters-spared (Refill h flags bytes) = tt
masters-spared (Release h) = masters-handle h
masters-spared (Cast change h) = tt

-- no step lets a block of master pointers go
pub step-masters : (step : Step) (m : Memory)
    → count is_masters m.heap.zone ≤ count is_masters (stepped step m).heap.zone
step-masters step m =
    rises-stepped masters (λ n. refl) masters-goes masters-filled step m (masters-spared step)

pub steps-masters : (steps : List Step) (m : Memory)
    → count is_masters m.heap.zone ≤ count is_masters (walk steps m).heap.zone
steps-masters [] m = omega arith
steps-masters (step ∷ steps) m = let a = step-masters step m in let b = steps-masters steps (stepped step m) in
    omega arith

stays-spared : (h : ℕ) (step : Step) → step_disposes step h ≡ false → Spares (stays h) step
stays-spared h (NewFilled role flags bytes) keeps = tt
stays-spared h (NewEmpty role) keeps = tt
stays-spared h (Refill k flags bytes) keeps = tt
stays-spared h (Release k) keeps = stays-other h k keeps
stays-spared h (Cast change k) keeps = tt

-- a block that may not be purged is there after steps that don't let its handle go
steps-stay : (steps : List Step) (m : Memory) (h : ℕ) → steps_dispose steps h ≡ false
    → total (stays h) m.heap.zone ≤ total (stays h) (walk steps m).heap.zone
steps-stay [] m h keeps = omega arith
steps-stay (step ∷ steps) m h keeps =
    let both = or_parts (step_disposes step h) (steps_dispose steps h) keeps in
    let a = rises-stepped (stays h) (λ n. refl) (stays-goes h) (stays-filled h) step m
    (stays-spared h step both.0) in
    let b = steps-stay steps (stepped step m) h both.1 in
    omega arith

-- so a handle that has a block before a path and none after it had one that might be purged before the path, unless
-- a step let it go
pub steps-purgeable : (steps : List Step) (m : Memory) (h : ℕ) → steps_dispose steps h ≡ false
    → has (is_relocatable h) m.heap.zone ≡ true → has (is_relocatable h) (walk steps m).heap.zone ≡ false
    → has_purgeable h m.heap.zone ≡ true
steps-purgeable steps m h keeps before after = cases (has_purgeable h m.heap.zone) refl
  where
    cases : (t : Bool) → has_purgeable h m.heap.zone ≡ t → t ≡ true
    cases true e = refl
    cases false e =
        let s = steps-stay steps m h keeps in
        let all = stays-all h m.heap.zone e in
        let le = stays-le h (walk steps m).heap.zone in
        still-there h m.heap.zone (walk steps m).heap.zone (false ≡ true) before after (omega arith)
