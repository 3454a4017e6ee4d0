use Rattle.heap_calls.proofs.Cited.{◌≡◌, true, false, List, [], ◌∷◌, ◌++◌, replicate, refl, Some, NO_ERR, MEM_FULL, Flags, Free}
use Rattle.heap_calls.proofs.Cited.{Nonrelocatable, Masters, Relocatable, no_flags, Site, State, Memory, Handle, Pointer, Disposed, Plain}
use Rattle.heap_calls.proofs.Cited.{Resource, SystemResource, idle, locked_place, pointer_place, guarded_as, owned_as, Step, NewFilled}
use Rattle.heap_calls.proofs.Cited.{NewEmpty, Refill, Release, Cast, stepped, refusal, read_by, walk, gone_at, reads, put_reads}
use Rattle.heap_calls.proofs.Cited.{steps_dispose, all_gone}

-- Steps on a small heap.

abbrev purgeable : Flags
purgeable = record { locked = false; purgeable = true }

abbrev locked : Flags
locked = record { locked = true; purgeable = false }

-- handle 0 has a purgeable block, pointer 1 one below 64 Free bytes
abbrev heap : State
heap = record {
  zone = Masters ∷ Relocatable 0 purgeable (7 ∷ 7 ∷ []) ∷ Nonrelocatable 1 (9 ∷ []) ∷ Free 64 ∷ [];
  names = Handle Plain ∷ Pointer ∷ [];
}

abbrev at : Site → Memory
at window = record {
  heap = heap;
  log = record { code = NO_ERR; searches = 0; busy = idle; reserved = 0 };
  moves = 0;
  window = window;
}

-- a purgeable resource is read: one search, and no code for MemError
abbrev fetch : Step
fetch = NewFilled Resource purgeable (1 ∷ 2 ∷ 3 ∷ [])

fetched-heap : (window : Site) → (stepped fetch (at window)).heap ≡ record {
  zone = Masters ∷ Relocatable 0 purgeable (7 ∷ 7 ∷ []) ∷ Nonrelocatable 1 (9 ∷ [])
      ∷ Relocatable 2 purgeable (1 ∷ 2 ∷ 3 ∷ []) ∷ Free 32 ∷ [];
  names = Handle Plain ∷ Pointer ∷ Handle Resource ∷ [];
}
fetched-heap window = refl

fetched-searches : (window : Site) → (stepped fetch (at window)).log.searches ≡ 1
fetched-searches window = refl

fetched-read : (window : Site) → read_by fetch (at window) ≡ (2, 1 ∷ 2 ∷ 3 ∷ []) ∷ []
fetched-read window = refl

-- one that is too large for the zone is refused after two searches, and the heap is as it was
abbrev large : Step
large = NewFilled Resource no_flags (replicate 200 5)

large-refused : (window : Site) → refusal large (at window) ≡ Some MEM_FULL
large-refused window = refl

large-heap : (window : Site) → (stepped large (at window)).heap ≡ heap
large-heap window = refl

large-searches : (window : Site) → (stepped large (at window)).log.searches ≡ 2
large-searches window = refl

large-unread : (window : Site) → read_by large (at window) ≡ []
large-unread window = refl

-- a purgeable block gives way where no other has room
narrow-heap : (window : Site) → (walk (NewFilled Resource no_flags (replicate 40 5) ∷ fetch ∷ []) (at window)).heap
    ≡ record {
      zone = Masters ∷ Relocatable 3 purgeable (1 ∷ 2 ∷ 3 ∷ []) ∷ Nonrelocatable 1 (9 ∷ [])
          ∷ Relocatable 2 no_flags (replicate 40 5) ∷ [];
      names = Handle Plain ∷ Pointer ∷ Handle Resource ∷ Handle Resource ∷ [];
    }
narrow-heap window = refl

narrow-gone : (window : Site)
    → gone_at fetch (stepped (NewFilled Resource no_flags (replicate 40 5)) (at window)) ≡ (0, 7 ∷ 7 ∷ []) ∷ []
narrow-gone window = refl

-- and so does one that was made before on the same way; none does for one that is too large
several-gone : (window : Site) → all_gone ((purgeable, replicate 40 5) ∷ (no_flags, replicate 200 5)
    ∷ (no_flags, replicate 40 6) ∷ []) (at window) ≡ (0, 7 ∷ 7 ∷ []) ∷ (2, replicate 40 5) ∷ []
several-gone window = refl

-- a handle with a block isn't filled once more
filled-stays : (window : Site) → stepped (Refill 0 no_flags (4 ∷ [])) (at window) ≡ at window
filled-stays window = refl

filled-gone : (window : Site) → gone_at (Refill 0 no_flags (replicate 40 5)) (at window) ≡ []
filled-gone window = refl

-- an empty handle is filled
abbrev path : List Step
path = NewEmpty SystemResource ∷ Refill 2 locked (4 ∷ 5 ∷ []) ∷ []

filled-heap : (window : Site) → (walk path (at window)).heap ≡ record {
  zone = Masters ∷ Relocatable 0 purgeable (7 ∷ 7 ∷ []) ∷ Nonrelocatable 1 (9 ∷ [])
      ∷ Relocatable 2 locked (4 ∷ 5 ∷ []) ∷ Free 32 ∷ [];
  names = Handle Plain ∷ Pointer ∷ Handle SystemResource ∷ [];
}
filled-heap window = refl

filled-read : (window : Site) → reads path (at window) ≡ (2, 4 ∷ 5 ∷ []) ∷ []
filled-read window = refl

filled-locked : (window : Site) → locked_place 2 (walk path (at window)).heap.zone ≡ Some 336
filled-locked window = refl

-- a handle goes with its block, whatever its role
released-heap : (window : Site) → (walk (path ++ Release 2 ∷ []) (at window)).heap ≡ record {
  zone = heap.zone;
  names = Handle Plain ∷ Pointer ∷ Disposed ∷ [];
}
released-heap window = refl

released-lets : steps_dispose (path ++ Release 2 ∷ []) 2 ≡ true
released-lets = refl

released-other : steps_dispose (path ++ Release 2 ∷ []) 0 ≡ false
released-other = refl

-- a pointer is no handle
pointer-stays : (window : Site) → stepped (Release 1) (at window) ≡ at window
pointer-stays window = refl

pointer-here : (window : Site) → pointer_place 1 (walk (fetch ∷ path) (at window)).heap.zone
    ≡ pointer_place 1 heap.zone
pointer-here window = refl

-- a resource's handle is guarded, and is then an application's own; its block is as it was
cast-guarded : (window : Site) → (walk (fetch ∷ Cast (guarded_as true) 2 ∷ []) (at window)).heap.names
    ≡ Handle Plain ∷ Pointer ∷ Handle SystemResource ∷ []
cast-guarded window = refl

cast-owned : (window : Site)
    → (walk (fetch ∷ Cast (guarded_as true) 2 ∷ Cast (owned_as false) 2 ∷ []) (at window)).heap.names
    ≡ Handle Plain ∷ Pointer ∷ Handle Plain ∷ []
cast-owned window = refl

cast-pointer : (window : Site) → stepped (Cast (owned_as true) 1) (at window) ≡ at window
cast-pointer window = refl

-- the bytes last put are those that were read last
last-read : put_reads ((2, 4 ∷ []) ∷ (2, 5 ∷ 6 ∷ []) ∷ (3, []) ∷ []) (λ h. []) 2 ≡ 5 ∷ 6 ∷ []
last-read = refl
