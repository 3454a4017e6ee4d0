use Rattle.heap_calls.proofs.Cited.{◌≡◌, false, List, [], ◌∷◌, refl, Some, replicate, Site, Memory, fresh_memory, Asked, served, Gone}
use Rattle.heap_calls.proofs.Cited.{refill, no_flags, gone_in, told_of, bytes_in, has_block, purges_made}
use Rattle.heap_calls.specs.Serving.{Zeros}
use Rattle.heap_calls.specs.Table as asks
use Rattle.heap_calls.specs.Rows as rows

-- The blocks that calls purge for a new block of a handle, by the definitions alone.

abbrev after : List Asked → Memory → Memory
after [] m = m
after (call ∷ calls) m = after calls (served call m).1

-- three handles of 200 bytes each in a zone that has 80 bytes left, and the two lower blocks may be purged
abbrev three : Site → Memory
three window = after
    (asks.NewHandle (Zeros 200) ∷ asks.NewHandle (Zeros 200) ∷ asks.NewHandle (Zeros 200) ∷ asks.Put (Some 0) 0 (72 ∷ [])
    ∷ asks.HPurge (Some 0) ∷ asks.HPurge (Some 1) ∷ []) (fresh_memory 1024 window)

abbrev lowest : Gone
lowest = (0, 72 ∷ replicate 199 0)

-- the handle's own bytes serve first, and then the lowest block goes
own_bytes_first : (window : Site) → purges_made (rows.reallocate_handle (Some 2) 250) (three window).heap ≡ []
own_bytes_first window = refl

lowest_block : (window : Site) → purges_made (rows.reallocate_handle (Some 2) 300) (three window).heap ≡ lowest ∷ []
lowest_block window = refl

lowest_two : (window : Site) → purges_made (rows.reallocate_handle (Some 2) 600) (three window).heap
    ≡ lowest ∷ (1, replicate 200 0) ∷ []
lowest_two window = refl

-- the handle's own block is not among them, although it may be purged
never_its_own : (window : Site) → purges_made (rows.reallocate_handle (Some 0) 450) (three window).heap ≡ (
  1,
  replicate
      200 0,
) ∷ []
never_its_own window = refl

-- none goes where all are too few, nor for a locked block, nor where there is no such handle
too_few : (window : Site) → purges_made (rows.reallocate_handle (Some 0) 600) (three window).heap ≡ []
too_few window = refl

locked : (window : Site)
    → purges_made (rows.reallocate_handle (Some 2) 300) (after (asks.HLock (Some 2) ∷ []) (three window)).heap ≡ []
locked window = refl

no_handle : (window : Site) → purges_made (rows.reallocate_handle (Some 7) 300) (three window).heap ≡ []
no_handle window = refl

-- a block for an empty handle
emptied : (window : Site) → purges_made (refill 2 no_flags (replicate 300 0)) (after (asks.EmptyHandle (Some 2) ∷ []) (three window)).heap
    ≡ lowest ∷ []
emptied window = refl

nothing_to_refill : (window : Site) → purges_made (refill 7 no_flags (replicate 300 0)) (three window).heap ≡ []
nothing_to_refill window = refl

-- what is told of a handle: its bytes, where its block goes, and nothing where it stays
goes : (window : Site) → told_of 0 (gone_in (asks.NewHandle (Zeros 150)) (three window)) ≡ (72 ∷ replicate 199 0) ∷ []
goes window = refl

gone_now : (window : Site) → has_block 0 (served (asks.NewHandle (Zeros 150)) (three window)).1.heap ≡ false
gone_now window = refl

held_before : (window : Site) → bytes_in 0 (three window).heap.zone ≡ (72 ∷ replicate 199 0) ∷ []
held_before window = refl

stays : (window : Site) → told_of 1 (gone_in (asks.NewHandle (Zeros 150)) (three window)) ≡ []
stays window = refl
