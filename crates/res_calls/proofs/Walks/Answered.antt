use Rattle.res_calls.proofs.Cited.{◌≡◌, ◌≤◌, ◌<◌, ◌+◌, ◌^◌, ℕ, Bool, true, false, Some, Err, List, length, sym, ◌∙◌, subst, OsErr}
use Rattle.res_calls.proofs.Cited.{sizes, count, is_masters, is_relocatable, has, counted, Memory, staying, locked_place, pointer_place}
use Rattle.res_calls.proofs.Cited.{has_purgeable, Step, walk, put_reads, steps_dispose, steps-known, steps-locked, steps-nonrelocatable}
use Rattle.res_calls.proofs.Cited.{steps-bytes, steps-masters, steps-purgeable, steps-fits, steps-busy, steps-code, steps-window, Managers}
use Rattle.res_calls.proofs.Cited.{Answer, Reads}
use Rattle.heap_calls.proofs.Promises.Knowing.{Known}
use Rattle.res_calls.proofs.Walks.Going.{Goes}
use Rattle.res_calls.proofs.Walks.Letting.{SearchFew}
use Rattle.res_calls.proofs.Walks.Laws.{no_more-walk}

-- The laws of an answer that goes by steps.

-- what holds after the steps
of-goes : {T : Type 0} {w : Bool} (P : Memory → Type 0) (steps : List Step) (s : Managers) (a : Answer T)
    → Goes w steps s a → P (walk steps s.memory) → P a.after.memory
of-goes P steps s a goes holds = subst P (sym goes.heap) holds

-- each block holds what was last put into it, or read
pub goes-known : {T : Type 0} {w : Bool} (steps : List Step) (s : Managers) (a : Answer T) (bytes : ℕ → List ℕ)
    → Goes w steps s a → Known s.memory.heap bytes → Known a.after.memory.heap (put_reads a.reads bytes)
goes-known steps s a bytes goes known =
    of-goes (λ m. Known m.heap (put_reads a.reads bytes)) steps s a goes
    (subst (λ (read : Reads). Known (walk steps s.memory).heap (put_reads read bytes)) (sym goes.read)
    (steps-known steps s.memory bytes known))

-- locked blocks stay, but for those that are let go, and pointers' blocks
pub goes-locked : {T : Type 0} {w : Bool} (steps : List Step) (s : Managers) (a : Answer T) (bytes : ℕ → List ℕ)
    → Goes w steps s a → Known s.memory.heap bytes → (h place : ℕ) → steps_dispose steps h ≡ false
    → locked_place h s.memory.heap.zone ≡ Some place → locked_place h a.after.memory.heap.zone ≡ Some place
goes-locked steps s a bytes goes known h place keeps is =
    of-goes (λ m. locked_place h m.heap.zone ≡ Some place) steps s a goes
    (steps-locked steps s.memory bytes known h place keeps is)

pub goes-nonrelocatable : {T : Type 0} {w : Bool} (steps : List Step) (s : Managers) (a : Answer T)
    → Goes w steps s a → (p place : ℕ) → pointer_place p s.memory.heap.zone ≡ Some place
    → pointer_place p a.after.memory.heap.zone ≡ Some place
goes-nonrelocatable steps s a goes p place is = of-goes (λ m. pointer_place p m.heap.zone ≡ Some place) steps s a goes
    (steps-nonrelocatable steps s.memory p ∙ is)

-- only blocks that may be purged are
pub goes-purgeable : {T : Type 0} {w : Bool} (steps : List Step) (s : Managers) (a : Answer T)
    → Goes w steps s a → (h : ℕ) → steps_dispose steps h ≡ false → has (is_relocatable h) s.memory.heap.zone ≡ true
    → has (is_relocatable h) a.after.memory.heap.zone ≡ false → has_purgeable h s.memory.heap.zone ≡ true
goes-purgeable steps s a goes h keeps before after =
    steps-purgeable steps s.memory h keeps before
    (subst (λ (m : Memory). has (is_relocatable h) m.heap.zone ≡ false) goes.heap after)

-- the zone keeps its size, and its blocks of master pointers
pub goes-bytes : {T : Type 0} {w : Bool} (steps : List Step) (s : Managers) (a : Answer T) → Goes w steps s a
    → sizes a.after.memory.heap.zone ≡ sizes s.memory.heap.zone
goes-bytes steps s a goes = of-goes (λ m. sizes m.heap.zone ≡ sizes s.memory.heap.zone) steps s a goes
    (steps-bytes steps s.memory)

pub goes-masters : {T : Type 0} {w : Bool} (steps : List Step) (s : Managers) (a : Answer T) → Goes w steps s a
    → count is_masters s.memory.heap.zone ≤ count is_masters a.after.memory.heap.zone
goes-masters steps s a goes =
    of-goes (λ m. count is_masters s.memory.heap.zone ≤ count is_masters m.heap.zone) steps s a goes
    (steps-masters steps s.memory)

-- where its steps search few times it does, and the count of searches always fits
pub goes-searches : {T : Type 0} {w : Bool} (steps : List Step) (s : Managers) (a : Answer T) → Goes w steps s a
    → SearchFew steps s.memory → 0 < count is_masters s.memory.heap.zone → s.memory.log.searches < 2 ^ 64
    → (n : ℕ) × (n ≤ length s.memory.heap.zone + 1)
    × (a.after.memory.log.searches ≡ counted s.memory.log.searches n)
goes-searches steps s a goes few masters fits = of-goes
    (λ m. (n : ℕ) × (n ≤ length s.memory.heap.zone + 1) × (m.log.searches ≡ counted s.memory.log.searches n))
    steps s a goes (few masters fits)

pub goes-fits : {T : Type 0} {w : Bool} (steps : List Step) (s : Managers) (a : Answer T) → Goes w steps s a
    → 0 < count is_masters s.memory.heap.zone → s.memory.log.searches < 2 ^ 64
    → a.after.memory.log.searches < 2 ^ 64
goes-fits steps s a goes masters fits = of-goes (λ m. m.log.searches < 2 ^ 64) steps s a goes
    (steps-fits steps s.memory masters fits)

pub goes-no_more : {T : Type 0} {w : Bool} (steps : List Step) (s : Managers) (a : Answer T) → Goes w steps s a
    → (code : OsErr) → a.reply ≡ Err code → staying a.after.memory.heap.zone ≤ staying s.memory.heap.zone
goes-no_more steps s a goes code is =
    of-goes (λ m. staying m.heap.zone ≤ staying s.memory.heap.zone) steps s a goes
    (no_more-walk steps s.memory code (goes.refuses code is).2)

-- it changes neither what is busy, nor the code that MemError tells, nor where the heap lies
pub goes-busy : {T : Type 0} {w : Bool} (steps : List Step) (s : Managers) (a : Answer T) → Goes w steps s a
    → a.after.memory.log.busy ≡ s.memory.log.busy
goes-busy steps s a goes = of-goes (λ m. m.log.busy ≡ s.memory.log.busy) steps s a goes (steps-busy steps s.memory)

pub goes-code : {T : Type 0} {w : Bool} (steps : List Step) (s : Managers) (a : Answer T) → Goes w steps s a
    → a.after.memory.log.code ≡ s.memory.log.code
goes-code steps s a goes = of-goes (λ m. m.log.code ≡ s.memory.log.code) steps s a goes (steps-code steps s.memory)

pub goes-window : {T : Type 0} {w : Bool} (steps : List Step) (s : Managers) (a : Answer T) → Goes w steps s a
    → a.after.memory.window ≡ s.memory.window
goes-window steps s a goes = of-goes (λ m. m.window ≡ s.memory.window) steps s a goes (steps-window steps s.memory)
