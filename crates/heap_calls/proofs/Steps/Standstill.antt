use Rattle.heap_calls.proofs.Cited.{◌≡◌, ℕ, ◌≤◌, Bool, true, false, ◌&&◌, ◌==◌, List, [], ◌∷◌, length, refl, sym, ◌∙◌, ap, subst, arith}
use Rattle.heap_calls.proofs.Cited.{Some, or_parts, Decides-eqb, Flags, Block, Relocatable, sizes, count, is_relocatable, is_nonrelocatable}
use Rattle.heap_calls.proofs.Cited.{count-none, Alike, stands-is, not_nonrelocatable-relocatable, State, Memory, nothing, has_block}
use Rattle.heap_calls.proofs.Cited.{is_locked, locked_place, pointer_place, Step, NewFilled, NewEmpty, Refill, Release, Cast, stepped, walk}
use Rattle.heap_calls.proofs.Cited.{read_by, put_reads, step_disposes, steps_dispose}
use Rattle.heap_calls.proofs.Promises.Knowing.{Known, for_handle, none-handle, next-none}
use Rattle.heap_calls.proofs.Promises.AlikeCalls.{Steady, never, steady-never, alike-gone}
use Rattle.heap_calls.proofs.Promises.LockedLaws.{steady-locked, fewer, some-locked, other-unlocked}
use Rattle.heap_calls.proofs.Promises.StandingLaws.{steady-nonrelocatable}
use Rattle.heap_calls.proofs.Steps.Ways.{path_of, Puts, step-along, Lets, step-leaves}
use Rattle.moves.proofs.Steady.{Stays}
use Rattle.moves.proofs.Steady as moves
use Rattle.heap_calls.proofs.Steps.Knowledge.{step-known}

-- What stands still through steps on a heap: a locked block, a pointer's block, and how many bytes a zone has.

-- no block that a step makes or lets go is seen
abbrev pub Unseen : (Block → Bool) → Step → State → Type 0
Unseen seen (NewFilled role flags bytes) s = seen (Relocatable (length s.names) flags bytes) ≡ false
Unseen seen (NewEmpty role) s = Unit {0}
Unseen seen (Refill h flags bytes) s = has_block h s ≡ false → seen (Relocatable h flags bytes) ≡ false
Unseen seen (Release h) s = (b : Block) → is_relocatable h b ≡ true → seen b ≡ false
Unseen seen (Cast change h) s = Unit {0}

module _ (seen : Block → Bool) (steady : Steady seen)
  where
    puts : (step : Step) (s : State) → Unseen seen step s → Puts (Stays seen steady.rigid nothing) step s
    puts (NewFilled role flags bytes) s unseen = λ z. unseen
    puts (Refill h flags bytes) s unseen = λ none z. unseen none
    puts step s unseen = tt

    lets : (step : Step) (s : State) → Unseen seen step s → Lets (Alike seen s.zone) step s
    lets (Release h) s unseen = alike-gone seen steady (is_relocatable h) unseen s.zone
    lets step s unseen = tt

    pub alike-stepped : (step : Step) (m : Memory) → Unseen seen step m.heap
        → Alike seen m.heap.zone (stepped step m).heap.zone
    alike-stepped step m unseen = step-leaves (Alike seen m.heap.zone) step m
        (moves.steady seen steady.rigid nothing (path_of step m.heap) m.heap.zone
        (step-along (Stays seen steady.rigid nothing) (λ n z. tt) (λ k z. tt) (λ z. steady.masters) step m.heap
        (puts step m.heap unseen))) (lets step m.heap unseen)

-- a handle without a block isn't that of a locked one
without-unlocked : (h place k : ℕ) (zone : List Block) → locked_place h zone ≡ Some place
    → count (is_relocatable k) zone ≤ 0 → (flags : Flags) (bytes : List ℕ)
    → is_locked h (Relocatable k flags bytes) ≡ false
without-unlocked h place k zone is none flags bytes = cases (k == h) refl
  where
    cases : (t : Bool) → (k == h) ≡ t → (t && flags.locked) ≡ false
    cases false e = refl
    cases true e =
        let few = subst (λ (j : ℕ). count (is_relocatable j) zone ≤ 0) ((Decides-eqb k h).0 e) none in
        let l = fewer h zone in
        some-locked h place zone is ((true && flags.locked) ≡ false) (omega arith)

unseen-locked : (step : Step) (s : State) (bytes : ℕ → List ℕ) → Known s bytes → (h place : ℕ)
    → step_disposes step h ≡ false → locked_place h s.zone ≡ Some place → Unseen (is_locked h) step s
unseen-locked (NewFilled role flags x) s bytes known h place keeps is =
    without-unlocked h place (length s.names) s.zone is
    (none-handle s bytes known (length s.names) (ap for_handle (next-none s.names))) flags x
unseen-locked (NewEmpty role) s bytes known h place keeps is = tt
unseen-locked (Refill k flags x) s bytes known h place keeps is = λ none.
    without-unlocked h place k s.zone is (let n = count-none (is_relocatable k) s.zone none in omega arith) flags x
unseen-locked (Release k) s bytes known h place keeps is = other-unlocked h k keeps
unseen-locked (Cast change k) s bytes known h place keeps is = tt

-- a locked block is where it was after a step that doesn't let its handle go
pub step-locked : (step : Step) (m : Memory) (bytes : ℕ → List ℕ) → Known m.heap bytes → (h place : ℕ)
    → step_disposes step h ≡ false → locked_place h m.heap.zone ≡ Some place
    → locked_place h (stepped step m).heap.zone ≡ Some place
step-locked step m bytes known h place keeps is =
    let zone = m.heap.zone in
    let z = (stepped step m).heap.zone in
    let alike = alike-stepped (is_locked h) (steady-locked h) step m
    (unseen-locked step m.heap bytes known h place keeps is) in
    stands-is (is_locked h) z ∙ sym alike.1 ∙ sym (stands-is (is_locked h) zone) ∙ is

-- and after a path
pub steps-locked : (steps : List Step) (m : Memory) (bytes : ℕ → List ℕ) → Known m.heap bytes → (h place : ℕ)
    → steps_dispose steps h ≡ false → locked_place h m.heap.zone ≡ Some place
    → locked_place h (walk steps m).heap.zone ≡ Some place
steps-locked [] m bytes known h place keeps is = is
steps-locked (step ∷ steps) m bytes known h place keeps is =
    let both = or_parts (step_disposes step h) (steps_dispose steps h) keeps in
    steps-locked steps (stepped step m) (put_reads (read_by step m) bytes) (step-known step m bytes known) h place
    both.1 (step-locked step m bytes known h place both.0 is)

unseen-nonrelocatable : (p : ℕ) (step : Step) (s : State) → Unseen (is_nonrelocatable p) step s
unseen-nonrelocatable p (NewFilled role flags x) s = refl
unseen-nonrelocatable p (NewEmpty role) s = tt
unseen-nonrelocatable p (Refill k flags x) s = λ none. refl
unseen-nonrelocatable p (Release k) s = not_nonrelocatable-relocatable p k
unseen-nonrelocatable p (Cast change k) s = tt

-- no step moves a pointer's block, or lets it go
pub step-nonrelocatable : (step : Step) (m : Memory) (p : ℕ)
    → pointer_place p (stepped step m).heap.zone ≡ pointer_place p m.heap.zone
step-nonrelocatable step m p =
    let alike = alike-stepped (is_nonrelocatable p) (steady-nonrelocatable p) step m (unseen-nonrelocatable p step m.heap) in
    stands-is (is_nonrelocatable p) (stepped step m).heap.zone ∙ sym alike.1 ∙ sym (stands-is (is_nonrelocatable p) m.heap.zone)

pub steps-nonrelocatable : (steps : List Step) (m : Memory) (p : ℕ)
    → pointer_place p (walk steps m).heap.zone ≡ pointer_place p m.heap.zone
steps-nonrelocatable [] m p = refl
steps-nonrelocatable (step ∷ steps) m p = steps-nonrelocatable steps (stepped step m) p ∙ step-nonrelocatable step m p

unseen-never : (step : Step) (s : State) → Unseen never step s
unseen-never (NewFilled role flags x) s = refl
unseen-never (NewEmpty role) s = tt
unseen-never (Refill k flags x) s = λ none. refl
unseen-never (Release k) s = λ b is. refl
unseen-never (Cast change k) s = tt

-- no step changes how many bytes a zone has
pub step-bytes : (step : Step) (m : Memory) → sizes (stepped step m).heap.zone ≡ sizes m.heap.zone
step-bytes step m = sym (alike-stepped never steady-never step m (unseen-never step m.heap)).0

pub steps-bytes : (steps : List Step) (m : Memory) → sizes (walk steps m).heap.zone ≡ sizes m.heap.zone
steps-bytes [] m = refl
steps-bytes (step ∷ steps) m = steps-bytes steps (stepped step m) ∙ step-bytes step m
