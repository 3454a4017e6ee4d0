use Rattle.heap_calls.proofs.Cited.{◌≡◌, ◌≤◌, ◌<◌, ◌+◌, ◌^◌, ℕ, Bool, true, false, List, [], ◌∷◌, length, refl, cond, arith, phys}
use Rattle.heap_calls.proofs.Cited.{Relocatable, count, is_masters, counted, Put, seek, if_fits, Memory, Handle, nothing, work}
use Rattle.heap_calls.proofs.Cited.{searches_made, new_filled, new_empty, refill, has_block, refill_inside, Step, NewFilled, NewEmpty}
use Rattle.heap_calls.proofs.Cited.{Refill, Release, Cast, stepped, walk}
use Rattle.std.specs.Prelude.{is_some}
use Rattle.heap_calls.specs.Table as asked
use Rattle.heap_calls.proofs.Promises.FewSearches.{goes-le, fits-few, made-few, unsearched, row_few}
use Rattle.heap_calls.proofs.Steps.Survival.{step-masters}
use Rattle.heap_calls.proofs.Steps.Ways.{refill-goes}

-- How often a step searches for room.

-- in a zone with a Masters block a step searches at most once more than there are blocks
pub step-searches : (step : Step) (m : Memory) → 0 < count is_masters m.heap.zone → m.log.searches < 2 ^ 64
    → (n : ℕ) × (n ≤ length m.heap.zone + 1) × ((stepped step m).log.searches ≡ counted m.log.searches n)
step-searches (NewFilled role flags bytes) m masters fits =
    let new = Relocatable (length m.heap.names) flags bytes in (
      searches_made (new_filled role flags bytes) m.heap,
      made-few (Handle role) nothing (λ z. if_fits (length bytes) (seek (Put new) nothing z))
          (fits-few nothing new (is_some (phys (length bytes)))) m.heap masters,
      refl,
    )
step-searches (NewEmpty role) m masters fits =
    (searches_made (new_empty role) m.heap, row_few asked.NewEmptyHandle m masters, refl)
step-searches (Refill h flags bytes) m masters fits = by_block (has_block h m.heap)
  where
    few : searches_made (refill h flags bytes) m.heap ≤ length m.heap.zone + 1
    few = refill-goes (λ d. (work d m.heap).searches ≤ length m.heap.zone + 1) h flags bytes m.heap (λ code. omega arith)
        (λ is. omega (
          arith,
          fits-few nothing (Relocatable h flags bytes) (is_some (phys (length bytes))) m.heap.zone,
          goes-le nothing m.heap.zone masters,
        ))

    by_block : (t : Bool) → (n : ℕ) × (n ≤ length m.heap.zone + 1)
        × ((cond t m (refill_inside h flags bytes m).1).log.searches ≡ counted m.log.searches n)
    by_block true = unsearched m.heap.zone m.log.searches fits
    by_block false = (searches_made (refill h flags bytes) m.heap, few, refl)
step-searches (Release h) m masters fits = unsearched m.heap.zone m.log.searches fits
step-searches (Cast change h) m masters fits = unsearched m.heap.zone m.log.searches fits

-- and the count of searches fits its 64 bits after it
pub step-fits : (step : Step) (m : Memory) → 0 < count is_masters m.heap.zone → m.log.searches < 2 ^ 64
    → (stepped step m).log.searches < 2 ^ 64
step-fits step m masters fits = let looks = step-searches step m masters fits in let is = looks.2 in omega arith

pub steps-fits : (steps : List Step) (m : Memory) → 0 < count is_masters m.heap.zone → m.log.searches < 2 ^ 64
    → (walk steps m).log.searches < 2 ^ 64
steps-fits [] m masters fits = fits
steps-fits (step ∷ steps) m masters fits =
    let kept = step-masters step m in
    steps-fits steps (stepped step m) (omega arith) (step-fits step m masters fits)
