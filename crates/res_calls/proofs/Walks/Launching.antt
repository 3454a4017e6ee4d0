use Rattle.res_calls.proofs.Cited.{◌≡◌, ◌≤◌, ◌<◌, ◌^◌, ℕ, true, false, Some, List, [], ◌∷◌, refl, sym, ◌∙◌, ap, subst, sizes, count}
use Rattle.res_calls.proofs.Cited.{is_masters, is_relocatable, has, Site, Memory, locked_place, pointer_place, has_purgeable, Step, walk}
use Rattle.res_calls.proofs.Cited.{reads, put_reads, steps_dispose, steps-known, steps-locked, steps-nonrelocatable, steps-bytes}
use Rattle.res_calls.proofs.Cited.{steps-masters, steps-purgeable, steps-fits, steps-busy, steps-code, steps-window, OpenFile, Resources}
use Rattle.res_calls.proofs.Cited.{Managers, Reads, Loaded, preloaded, preloaded_in, with_loaded}
use Rattle.heap_calls.proofs.Promises.Knowing.{Known}
use Rattle.res_calls.proofs.Walks.Steps.{load_steps}
use Rattle.res_calls.proofs.Walks.Going.{loaded-loads}
use Rattle.res_calls.proofs.Walks.Letting.{load-lets}
use Rattle.res_calls.proofs.Walks.Place.{moved, loaded-place}

-- The laws of a launch, where the resources of the application's fork are read that are to be read at once.

-- its steps: a new handle for each of them
abbrev pub launch_steps_in : List OpenFile → Managers → List Step
launch_steps_in [] s = []
launch_steps_in (f ∷ older) s = load_steps f.map.references s

abbrev pub launch_steps : Managers → List Step
launch_steps s = launch_steps_in s.resources.chain s

in-walks : (chain : List OpenFile) (s : Managers)
    → (preloaded_in chain s).0.memory ≡ walk (launch_steps_in chain s) s.memory
in-walks [] s = refl
in-walks (f ∷ older) s = (loaded-loads f s).heap

in-reads : (chain : List OpenFile) (s : Managers)
    → (preloaded_in chain s).1 ≡ reads (launch_steps_in chain s) s.memory
in-reads [] s = refl
in-reads (f ∷ older) s = (loaded-loads f s).read

-- the heap is what they make of it, and what was read is what they read; they let no handle go
pub preloaded-walks : (s : Managers) → (preloaded s).0.memory ≡ walk (launch_steps s) s.memory
preloaded-walks s = in-walks s.resources.chain s

pub preloaded-reads : (s : Managers) → (preloaded s).1 ≡ reads (launch_steps s) s.memory
preloaded-reads s = in-reads s.resources.chain s

-- what holds after the steps
of-launch : (P : Memory → Type 0) (s : Managers) → P (walk (launch_steps s) s.memory) → P (preloaded s).0.memory
of-launch P s holds = subst P (sym (preloaded-walks s)) holds

-- each block holds what was put into it, or read
pub preloaded-known : (s : Managers) (bytes : ℕ → List ℕ) → Known s.memory.heap bytes
    → Known (preloaded s).0.memory.heap (put_reads (preloaded s).1 bytes)
preloaded-known s bytes known =
    of-launch (λ m. Known m.heap (put_reads (preloaded s).1 bytes)) s
    (subst (λ (read : Reads). Known (walk (launch_steps s) s.memory).heap (put_reads read bytes))
    (sym (preloaded-reads s)) (steps-known (launch_steps s) s.memory bytes known))

pub preloaded-masters : (s : Managers)
    → count is_masters s.memory.heap.zone ≤ count is_masters (preloaded s).0.memory.heap.zone
preloaded-masters s = of-launch (λ m. count is_masters s.memory.heap.zone ≤ count is_masters m.heap.zone) s
    (steps-masters (launch_steps s) s.memory)

pub preloaded-fits : (s : Managers) → 0 < count is_masters s.memory.heap.zone → s.memory.log.searches < 2 ^ 64
    → (preloaded s).0.memory.log.searches < 2 ^ 64
preloaded-fits s masters fits = of-launch (λ m. m.log.searches < 2 ^ 64) s
    (steps-fits (launch_steps s) s.memory masters fits)

-- a launch changes neither what is busy, nor the code that MemError tells, nor where the heap lies
pub preloaded-busy : (s : Managers) → (preloaded s).0.memory.log.busy ≡ s.memory.log.busy
preloaded-busy s = of-launch (λ m. m.log.busy ≡ s.memory.log.busy) s (steps-busy (launch_steps s) s.memory)

-- what it comes to doesn't hang on where the heap lies
pub preloaded-elsewhere : (window : Site) (s : Managers)
    → preloaded (moved window s) ≡ (moved window (preloaded s).0, (preloaded s).1)
preloaded-elsewhere window s = by_chain s.resources.chain
  where
    by_chain : (chain : List OpenFile) → preloaded_in chain (moved window s)
        ≡ (moved window (preloaded_in chain s).0, (preloaded_in chain s).1)
    by_chain [] = refl
    by_chain (f ∷ older) = ap (λ (l : Loaded). both l) (loaded-place window f s)
      where
        both : Loaded → Managers × Reads
        both l = (
          record { memory = l.memory; resources = record s.resources { chain = with_loaded l f ∷ older } },
          l.reads,
        )
