use Rattle.heap_calls.proofs.Cited.{◌≡◌, Bool, true, false, List, [], ◌∷◌, refl, ◌∙◌, cond, Site, Memory, has_block, refill_inside, Step}
use Rattle.heap_calls.proofs.Cited.{NewFilled, NewEmpty, Refill, Release, Cast, stepped, walk}
use Rattle.heap_calls.proofs.Tries.Elsewhere.{elsewhere}

-- Steps on a heap don't hang on where it lies, and leave that, the code that MemError tells and what is busy.

pub step-elsewhere : (window : Site) (step : Step) (m : Memory)
    → stepped step (elsewhere window m) ≡ elsewhere window (stepped step m)
step-elsewhere window (NewFilled role flags bytes) m = refl
step-elsewhere window (NewEmpty role) m = refl
step-elsewhere window (Refill h flags bytes) m = by_block (has_block h m.heap)
  where
    by_block : (t : Bool) → cond t (elsewhere window m) (refill_inside h flags bytes (elsewhere window m)).1
        ≡ elsewhere window (cond t m (refill_inside h flags bytes m).1)
    by_block true = refl
    by_block false = refl
step-elsewhere window (Release h) m = refl
step-elsewhere window (Cast change h) m = refl

-- what a step leaves of a memory
pub record Rests (m n : Memory) : Type 0 where
  pub busy : n.log.busy ≡ m.log.busy
  pub code : n.log.code ≡ m.log.code
  pub window : n.window ≡ m.window

rests-same : (m : Memory) → Rests m m
rests-same m = record { busy = refl; code = refl; window = refl }

pub step-rests : (step : Step) (m : Memory) → Rests m (stepped step m)
step-rests (NewFilled role flags bytes) m = record { busy = refl; code = refl; window = refl }
step-rests (NewEmpty role) m = record { busy = refl; code = refl; window = refl }
step-rests (Refill h flags bytes) m = by_block (has_block h m.heap)
  where
    by_block : (t : Bool) → Rests m (cond t m (refill_inside h flags bytes m).1)
    by_block true = rests-same m
    by_block false = record { busy = refl; code = refl; window = refl }
step-rests (Release h) m = record { busy = refl; code = refl; window = refl }
step-rests (Cast change h) m = record { busy = refl; code = refl; window = refl }

pub steps-rest : (steps : List Step) (m : Memory) → Rests m (walk steps m)
steps-rest [] m = rests-same m
steps-rest (step ∷ steps) m =
    let first = step-rests step m in
    let later = steps-rest steps (stepped step m) in
    record { busy = later.busy ∙ first.busy; code = later.code ∙ first.code; window = later.window ∙ first.window }

pub steps-busy : (steps : List Step) (m : Memory) → (walk steps m).log.busy ≡ m.log.busy
steps-busy steps m = (steps-rest steps m).busy

pub steps-code : (steps : List Step) (m : Memory) → (walk steps m).log.code ≡ m.log.code
steps-code steps m = (steps-rest steps m).code

pub steps-window : (steps : List Step) (m : Memory) → (walk steps m).window ≡ m.window
steps-window steps m = (steps-rest steps m).window
