use Rattle.res_calls.proofs.Cited.{◌≡◌, ◌≤◌, ◌<◌, ◌+◌, ◌^◌, ◌⊎◌, inl, inr, ℕ, true, false, Some, List, [], length, refl, sym, ◌∙◌, ap}
use Rattle.res_calls.proofs.Cited.{subst, arith, OsErr, Refused, sizes, count, is_masters, is_relocatable, has, counted, State, Memory}
use Rattle.res_calls.proofs.Cited.{nothing, slotted_zone, staying, locked_place, pointer_place, has_purgeable, Step, NewFilled, NewEmpty}
use Rattle.res_calls.proofs.Cited.{Refill, Release, Cast, walk, reads, put_reads, left_zone, steps-known, steps-locked}
use Rattle.res_calls.proofs.Cited.{steps-nonrelocatable, steps-bytes, steps-masters, steps-purgeable, step-refused, step-no_more}
use Rattle.res_calls.proofs.Cited.{steps-fits, steps-busy, steps-code, steps-window, Managers, ResourceAsked, served, disposes_of}
use Rattle.res_calls.proofs.Cited.{opens_file, left_refused, writes}
use Rattle.heap_calls.proofs.Promises.Knowing.{Known}
use Rattle.res_calls.proofs.Walks.Steps.{steps_of}
use Rattle.res_calls.proofs.Walks.Going.{Refuses}
use Rattle.res_calls.proofs.Walks.Serving.{served-serves}
use Rattle.res_calls.proofs.Walks.Letting.{lets-walk, searches-walk}

-- The laws of one call of the Resource Manager.

-- the heap is what the call's steps make of it, and what was read is what they read
pub heap-walks : (a : ResourceAsked) (s : Managers) → (served a s).after.memory ≡ walk (steps_of a s) s.memory
heap-walks a s = (served-serves a s).heap

pub reads-walk : (a : ResourceAsked) (s : Managers) → (served a s).reads ≡ reads (steps_of a s) s.memory
reads-walk a s = (served-serves a s).read

-- a refused call read nothing, and took no step, or one that was refused with its code
pub served-unread : (a : ResourceAsked) (s : Managers) (code : OsErr) → (served a s).told ≡ Refused code
    → (served a s).reads ≡ []
served-unread a s code tells = ((served-serves a s).refuses code tells).0

pub one-step : (a : ResourceAsked) (s : Managers) (code : OsErr) → (served a s).told ≡ Refused code
    → Refuses (steps_of a s) s.memory code
one-step a s code tells = ((served-serves a s).refuses code tells).2

-- what holds after the steps
of-walk : (P : Memory → Type 0) (a : ResourceAsked) (s : Managers) → P (walk (steps_of a s) s.memory)
    → P (served a s).after.memory
of-walk P a s holds = subst P (sym (heap-walks a s)) holds

-- each block holds what was last put into it, or read
pub served-known : (a : ResourceAsked) (s : Managers) (bytes : ℕ → List ℕ) → Known s.memory.heap bytes
    → Known (served a s).after.memory.heap (put_reads (served a s).reads bytes)
served-known a s bytes known =
    of-walk (λ m. Known m.heap (put_reads (served a s).reads bytes)) a s
    (subst (λ (read : List (ℕ × List ℕ)). Known (walk (steps_of a s) s.memory).heap (put_reads read bytes))
    (sym (reads-walk a s)) (steps-known (steps_of a s) s.memory bytes known))

-- locked blocks stay, but for those that are disposed of, and pointers' blocks
pub served-locked : (a : ResourceAsked) (s : Managers) (bytes : ℕ → List ℕ) → Known s.memory.heap bytes
    → (h place : ℕ) → disposes_of h a s ≡ false → locked_place h s.memory.heap.zone ≡ Some place
    → locked_place h (served a s).after.memory.heap.zone ≡ Some place
served-locked a s bytes known h place keeps is = of-walk (λ m. locked_place h m.heap.zone ≡ Some place) a s
    (steps-locked (steps_of a s) s.memory bytes known h place (lets-walk h a s keeps) is)

pub served-nonrelocatable : (a : ResourceAsked) (s : Managers) (bytes : ℕ → List ℕ) → Known s.memory.heap bytes
    → (p place : ℕ) → pointer_place p s.memory.heap.zone ≡ Some place
    → pointer_place p (served a s).after.memory.heap.zone ≡ Some place
served-nonrelocatable a s bytes known p place is = of-walk (λ m. pointer_place p m.heap.zone ≡ Some place) a s
    (steps-nonrelocatable (steps_of a s) s.memory p ∙ is)

-- only blocks that may be purged are
pub served-purgeable : (a : ResourceAsked) (s : Managers) (bytes : ℕ → List ℕ) → Known s.memory.heap bytes
    → (h : ℕ) → disposes_of h a s ≡ false → has (is_relocatable h) s.memory.heap.zone ≡ true
    → has (is_relocatable h) (served a s).after.memory.heap.zone ≡ false
    → has_purgeable h s.memory.heap.zone ≡ true
served-purgeable a s bytes known h keeps before after =
    steps-purgeable (steps_of a s) s.memory h (lets-walk h a s keeps) before
    (subst (λ (m : Memory). has (is_relocatable h) m.heap.zone ≡ false) (heap-walks a s) after)

-- the zone keeps its size, and its blocks of master pointers
pub served-bytes : (a : ResourceAsked) (s : Managers) (bytes : ℕ → List ℕ) → Known s.memory.heap bytes
    → sizes (served a s).after.memory.heap.zone ≡ sizes s.memory.heap.zone
served-bytes a s bytes known = of-walk (λ m. sizes m.heap.zone ≡ sizes s.memory.heap.zone) a s
    (steps-bytes (steps_of a s) s.memory)

pub served-masters : (a : ResourceAsked) (s : Managers) (bytes : ℕ → List ℕ) → Known s.memory.heap bytes
    → count is_masters s.memory.heap.zone ≤ count is_masters (served a s).after.memory.heap.zone
served-masters a s bytes known = of-walk (λ m. count is_masters s.memory.heap.zone ≤ count is_masters m.heap.zone) a s
    (steps-masters (steps_of a s) s.memory)

-- a call that opens no file searches at most once more than there are blocks, and the count of searches always fits
pub served-searches : (a : ResourceAsked) (s : Managers) → opens_file a ≡ false
    → 0 < count is_masters s.memory.heap.zone → s.memory.log.searches < 2 ^ 64
    → (n : ℕ) × (n ≤ length s.memory.heap.zone + 1)
    × ((served a s).after.memory.log.searches ≡ counted s.memory.log.searches n)
served-searches a s opens masters fits = of-walk
    (λ m. (n : ℕ) × (n ≤ length s.memory.heap.zone + 1) × (m.log.searches ≡ counted s.memory.log.searches n)) a s
    (searches-walk a s opens masters fits)

pub served-fits : (a : ResourceAsked) (s : Managers) → 0 < count is_masters s.memory.heap.zone
    → s.memory.log.searches < 2 ^ 64 → (served a s).after.memory.log.searches < 2 ^ 64
served-fits a s masters fits = of-walk (λ m. m.log.searches < 2 ^ 64) a s
    (steps-fits (steps_of a s) s.memory masters fits)

-- a refused call leaves the heap, but that a block of slots may stay that was made for it
abbrev pub LeftOrSlotted : State → State → Type 0
LeftOrSlotted before after = (after ≡ before) ⊎ (after ≡ record before { zone = slotted_zone nothing before })

left-by : (step : Step) (s : State) → LeftOrSlotted s (record s { zone = left_zone step s })
left-by (NewFilled role flags bytes) s = inr refl
left-by (NewEmpty role) s = inr refl
left-by (Refill h flags bytes) s = inl refl
left-by (Release h) s = inl refl
left-by (Cast change h) s = inl refl

pub left-walk : (steps : List Step) (m : Memory) (code : OsErr) → Refuses steps m code → LeftOrSlotted m.heap
    (walk steps m).heap
left-walk steps m code (inl none) = inl (ap (λ (path : List Step). (walk path m).heap) none)
left-walk steps m code (inr (step, is, refused)) =
    subst (λ (path : List Step). LeftOrSlotted m.heap (walk path m).heap) (sym is)
    (subst (LeftOrSlotted m.heap) (sym (step-refused step m code refused)) (left-by step m.heap))

pub served-refused : (a : ResourceAsked) (s : Managers) (code : OsErr) → (served a s).told ≡ Refused code
    → (((served a s).after.memory.heap ≡ s.memory.heap)
    ⊎ ((served a s).after.memory.heap ≡ record s.memory.heap { zone = slotted_zone nothing s.memory.heap }))
    × ((served a s).after.resources ≡ record (left_refused a code s) { error = code })
served-refused a s code tells = (
  of-walk (λ m. LeftOrSlotted s.memory.heap m.heap) a s
      (left-walk (steps_of a s) s.memory code (one-step a s code tells)),
  ((served-serves a s).refuses code tells).1,
)

-- and it leaves the files
pub refused-files : (a : ResourceAsked) (s : Managers) (code : OsErr) → (served a s).told ≡ Refused code
    → (served a s).after.resources.files ≡ s.resources.files
refused-files a s code tells = (served-serves a s).stays code tells

-- and no more stays than before it
pub no_more-walk : (steps : List Step) (m : Memory) (code : OsErr) → Refuses steps m code
    → staying (walk steps m).heap.zone ≤ staying m.heap.zone
no_more-walk steps m code (inl none) =
    subst (λ (path : List Step). staying (walk path m).heap.zone ≤ staying m.heap.zone) (sym none) (omega arith)
no_more-walk steps m code (inr (step, is, refused)) =
    subst (λ (path : List Step). staying (walk path m).heap.zone ≤ staying m.heap.zone) (sym is)
    (step-no_more step m code refused)

pub served-no_more : (a : ResourceAsked) (s : Managers) (code : OsErr) → (served a s).told ≡ Refused code
    → staying (served a s).after.memory.heap.zone ≤ staying s.memory.heap.zone
served-no_more a s code tells = of-walk (λ m. staying m.heap.zone ≤ staying s.memory.heap.zone) a s
    (no_more-walk (steps_of a s) s.memory code (one-step a s code tells))

-- no call changes what is busy, the code that MemError tells, or where the heap lies
pub served-busy : (a : ResourceAsked) (s : Managers) → (served a s).after.memory.log.busy ≡ s.memory.log.busy
served-busy a s = of-walk (λ m. m.log.busy ≡ s.memory.log.busy) a s (steps-busy (steps_of a s) s.memory)

pub served-code : (a : ResourceAsked) (s : Managers) → (served a s).after.memory.log.code ≡ s.memory.log.code
served-code a s = of-walk (λ m. m.log.code ≡ s.memory.log.code) a s (steps-code (steps_of a s) s.memory)

pub served-window : (a : ResourceAsked) (s : Managers) → (served a s).after.memory.window ≡ s.memory.window
served-window a s = of-walk (λ m. m.window ≡ s.memory.window) a s (steps-window (steps_of a s) s.memory)

-- and one that writes no fork leaves the files
pub served-files : (a : ResourceAsked) (s : Managers) → writes a ≡ false
    → (served a s).after.resources.files ≡ s.resources.files
served-files a s quiet = (served-serves a s).files quiet
