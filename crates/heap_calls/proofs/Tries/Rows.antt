use Rattle.heap_calls.proofs.Cited.{◌≡◌, false, [], ◌∷◌, List, replicate, refl, Some, NO_ERR, LOCKED, NIL_HANDLE, MEM_FULL, fresh, sizes}
use Rattle.heap_calls.proofs.Cited.{Site, Memory, fresh_memory, Asked, NewHandle, DisposeHandle, EmptyHandle, HPurge, HLock, HandAndHand}
use Rattle.heap_calls.proofs.Cited.{MemError, Bytes, Refused, Show, NewPtr, Zeros, idle, busied, eased, is_busy, with_busy, served}
use Rattle.heap_calls.proofs.Cited.{refused_zone, ease, staying, of_masters}
use Rattle.mac_words.specs.Told.{Done, Code}

-- Tries of calls while names are busy, and what can be had, on small zones.

-- the heap after calls, wherever it lies
abbrev after : List Asked → Memory → Memory
after [] m = m
after (a ∷ calls) m = after calls (served a m).1

-- handles 0 and 1 with 4 bytes each
abbrev two : Site → Memory
two window = after (NewHandle (Zeros 4) ∷ NewHandle (Zeros 4) ∷ []) (fresh_memory 1024 window)

-- the first of them is busy
abbrev busy : Site → Memory
busy window = with_busy (busied 0 idle) (two window)

is-barred : (window : Site) → (served (DisposeHandle (Some 0)) (busy window)).0 ≡ Refused LOCKED
is-barred window = refl

heap-stays : (window : Site) → (served (DisposeHandle (Some 0)) (busy window)).1.heap ≡ (two window).heap
heap-stays window = refl

code-is-noted : (window : Site)
    → (served MemError (served (DisposeHandle (Some 0)) (busy window)).1).0 ≡ Code LOCKED
code-is-noted window = refl

-- the code of a call that shows bytes isn't
show-is-barred : (window : Site) → (served (Show (Some 0)) (busy window)).0 ≡ Refused LOCKED
show-is-barred window = refl

show-notes-nothing : (window : Site) → (served MemError (served (Show (Some 0)) (busy window)).1).0 ≡ Code NO_ERR
show-notes-nothing window = refl

other-is-served : (window : Site) → (served (Show (Some 1)) (busy window)).0 ≡ Bytes (replicate 4 0)
other-is-served window = refl

-- the second of two names bars a call, but what the first one is refused for comes before
second-bars : (window : Site) → (served (HandAndHand (Some 1) (Some 0)) (busy window)).0 ≡ Refused LOCKED
second-bars window = refl

first-is-empty : (window : Site)
    → (served (HandAndHand (Some 1) (Some 0)) (after (EmptyHandle (Some 1) ∷ []) (busy window))).0
    ≡ Refused NIL_HANDLE
first-is-empty window = refl

-- a name that is busy no more
eased-again : (window : Site)
    → (served (DisposeHandle (Some 0)) (with_busy (eased 0 (busied 0 idle)) (busy window))).0 ≡ Done
eased-again window = refl

-- a call that is barred makes no slots
barred-zone : (window : Site) → refused_zone (HandAndHand (Some 0) (Some 1)) (busy window) ≡ (two window).heap.zone
barred-zone window = refl

-- three names are busy at most
fourth-is-not : is_busy 3 (busied 3 (busied 2 (busied 1 (busied 0 idle)))) ≡ false
fourth-is-not = refl

-- a fresh zone stays in nothing but its master pointers
fresh-ease : ease (fresh 1024) ≡ 752
fresh-ease = refl

fresh-staying : staying (fresh 1024) ≡ 0
fresh-staying = refl

fresh-masters : of_masters (fresh 1024) ≡ 272
fresh-masters = refl

-- two blocks of 32 bytes stay, and a pointer's of 48
abbrev three : Site → Memory
three window = after (NewPtr 24 ∷ []) (two window)

blocks-stay : (window : Site) → staying (three window).heap.zone ≡ 112
blocks-stay window = refl

less-to-be-had : (window : Site) → ease (three window).heap.zone ≡ 640
less-to-be-had window = refl

-- a purgeable block stays no more, unless it is locked
purgeable-goes : (window : Site) → staying (after (HPurge (Some 0) ∷ []) (three window)).heap.zone ≡ 80
purgeable-goes window = refl

locked-stays : (window : Site)
    → staying (after (HPurge (Some 0) ∷ HLock (Some 0) ∷ []) (three window)).heap.zone ≡ 112
locked-stays window = refl

-- a call that is refused for want of room
no-room : (window : Site) → (served (NewHandle (Zeros 700)) (three window)).0 ≡ Refused MEM_FULL
no-room window = refl

as-much-stays : (window : Site) → staying (served (NewHandle (Zeros 700)) (three window)).1.heap.zone ≡ 112
as-much-stays window = refl

-- a block of 32 bytes that is disposed of makes 32 bytes more
as-much-more : (window : Site) → ease (after (DisposeHandle (Some 1) ∷ []) (three window)).heap.zone ≡ 672
as-much-more window = refl

as-many-bytes : (window : Site) → sizes (after (DisposeHandle (Some 1) ∷ []) (three window)).heap.zone ≡ 1024
as-many-bytes window = refl
