use Rattle.heap_calls.proofs.Cited.{◌≡◌, ◌⊎◌, Some, ℕ, ◌*◌, List, length, inl, inr, refl, sym, ◌∙◌, ap, subst, Block, count, is_masters}
use Rattle.heap_calls.proofs.Cited.{rename, Rest, IsRest, Nothing, Anchor, Log, Memory, CountedMemory, nothing, Gone, Tells, TellsNothing}
use Rattle.heap_calls.proofs.Cited.{slot_gone, Role, Flags, new_filled, purges_made, LeavesUnmade, LeavesMasters, slotted_zone, memory_of}
use Rattle.heap_calls.proofs.Cited.{heap_of, handle_number, pointer_number, Agrees, zone_slotted, HasMore, zone_slot_gone, told_along}
use Rattle.heap_calls.proofs.Cited.{seek_new, fresh_block, LeavesSlot}
use Rattle.heap_calls.proofs.GoneBlocks.{slot_gone-is, slotted_zone-is}
use Rattle.heap_calls.proofs.Made.{filled-gone}
use Rattle.heap_calls.proofs.NewBlocks.NewHandles.{kept-still}
use Rattle.heap_calls.proofs.Numbering.Changing.{memory-same}
use Rattle.heap_calls.proofs.Numbering.Memories.{memory_as, placings_as, counted_as}

-- What a sink is told as a new handle is made, and what is left where the host is out of memory.

module _ {A : Type 0} (told : A → List Gone → Type 0) (value : Memory) (zone : List Block) (rest : Rest)
    (es copy : List Anchor) (log : Log) (masters : rest.all ≡ 64 * count is_masters zone)
    (is : memory_of zone rest es log ≡ value) (agrees : Agrees zone rest es) (copied : copy ≡ es) (before after : A)
  where
    pub made-told : (role : Role) (flags : Flags) (bytes : List ℕ) → Tells told (told_along copy nothing
        (seek_new Nothing rest.unused (length bytes) (fresh_block 0 (length bytes)) zone) zone) before after
        → Tells told (purges_made (new_filled role flags bytes) value.heap) before after
    made-told role flags bytes was =
        subst (λ (l : List Gone). Tells told l before after)
        (ap (λ (e : List Anchor). told_along e nothing (seek_new Nothing rest.unused (length bytes)
        (fresh_block 0 (length bytes)) zone) zone) copied ∙ filled-gone zone rest es masters agrees role flags bytes
        ∙ ap (λ (m : Memory). purges_made (new_filled role flags bytes) m.heap) is) was

    -- where no slot was taken
    pub left-same : (zone' : List Block) (rest' : Rest) (es' : List Anchor) → es' ≡ es → zone' ≡ zone
        → IsRest rest rest' → memory_of zone' rest' es' log ≡ value
    left-same zone' rest' es' now same kept =
        ap (λ z. memory_of z rest' es' log) same ∙ ap (λ (l : List Anchor). memory_of zone rest' l log) now
        ∙ memory-same zone rest rest' es log kept ∙ is

    -- where a slot was taken
    pub left-slotted : (zone' : List Block) (rest' : Rest) (es' : List Anchor) → es' ≡ es
        → zone_slotted Nothing rest.unused zone ≡ Some zone' → HasMore rest rest' → rest'.moves ≡ rest.moves
        → Tells told (zone_slot_gone copy Nothing rest.unused zone) before after
        → LeavesMasters nothing value (memory_of zone' rest' es' log)
        × Tells told (slot_gone nothing value.heap) before after
    left-slotted zone' rest' es' now slotted more still tells = (
      kept-still value zone zone' rest rest' es es' log is now agrees more still
          ∙ ap (λ z. record value { heap = record value.heap { zone = z } })
          (ap (λ (l : List Anchor). rename (handle_number l) (pointer_number l) zone') now
          ∙ sym (slotted_zone-is zone rest es masters agrees nothing Nothing (λ b. refl) zone' slotted)
          ∙ ap (λ (m : Memory). slotted_zone nothing m.heap) is),
      subst (λ (l : List Gone). Tells told l before after)
          (ap (λ (e : List Anchor). zone_slot_gone e Nothing rest.unused zone) copied
          ∙ slot_gone-is zone rest es masters agrees nothing Nothing (λ b. refl)
          ∙ ap (λ (m : Memory). slot_gone nothing m.heap) is) tells,
    )

    pub left-unmade : (zone' : List Block) (rest' : Rest) (es' : List Anchor) → es' ≡ es
        → LeavesSlot told copy Nothing zone rest zone' rest' before after
        → LeavesUnmade told value (memory_of zone' rest' es' log) before after
    left-unmade zone' rest' es' now left = elim left [
      | inl same ↦ inl (left-same zone' rest' es' now same.0 same.1, same.2)
      | inr slot ↦ inr (left-slotted zone' rest' es' now slot.0 slot.1 slot.2 slot.3)
    ]

-- The same of a heap: with no slot taken, its store has counted no placing.
module _ {A : Type 0} (told : A → List Gone → Type 0) (value : CountedMemory) (zone : List Block) (rest : Rest)
    (es copy : List Anchor) (log : Log) (masters : rest.all ≡ 64 * count is_masters zone)
    (is : heap_of zone rest es log ≡ value) (agrees : Agrees zone rest es) (copied : copy ≡ es) (before after : A)
  where
    pub heap-unmade : (zone' : List Block) (rest' : Rest) (es' : List Anchor) → es' ≡ es
        → LeavesSlot told copy Nothing zone rest zone' rest' before after
        → ((heap_of zone' rest' es' log ≡ value) × TellsNothing told before after)
        ⊎ (LeavesMasters nothing value.memory (memory_of zone' rest' es' log)
        × Tells told (slot_gone nothing value.memory.heap) before after)
    heap-unmade zone' rest' es' now left = elim left [
      | inl same ↦ inl (
        counted_as (left-same told value.memory zone rest es copy log masters (memory_as is) agrees copied before after
            zone' rest' es' now same.0 same.1) (same.1.placed ∙ placings_as is),
        same.2,
      )
      | inr slot ↦ inr (left-slotted told value.memory zone rest es copy log masters (memory_as is) agrees copied before
          after zone' rest' es' now slot.0 slot.1 slot.2 slot.3)
    ]
