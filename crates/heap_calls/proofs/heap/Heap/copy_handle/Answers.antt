use Rattle.heap_calls.proofs.Cited.{◌≡◌, List, length, refl, sym, ◌∙◌, ap, arith, inl, inr, Some, Err, slice_get, subst, length-map}
use Rattle.heap_calls.proofs.Cited.{err_from_is_err_and, NIL_HANDLE, rename, content_of, One, Anchor, Memory, look_up, copying_zone, Gone}
use Rattle.heap_calls.proofs.Cited.{Tells, copying_gone, Hears, hand_to_hand, doing_silently, purges_made, KeepsNames, slot_of, entered}
use Rattle.heap_calls.proofs.Cited.{name_of, state_of, memory_of, handle_number, pointer_number, Agrees, zone_slot_gone, told_along}
use Rattle.heap_calls.proofs.Cited.{seek_new, fresh_block, is_relocatable}
use Rattle.heap_calls.specs.declared.anchor.Anchor.TheVariants.{Handle}
use Rattle.heap_calls.specs.Rows.{refused}
use Rattle.heap_calls.proofs.Hearing.{hears-as, hears-none, stops-at-once, stops-on-the-way}
use Rattle.heap_calls.proofs.Made.{made-agrees}
use Rattle.heap_calls.proofs.NewBlocks.CopiedHandles.{Copied, copy-nil, copy-none, slot-in, source-few, copied-answer}
use Rattle.heap_calls.proofs.NewBlocks.CopiedHandles.{copied-gone, copying_gone-is, copying_zone-is}
use Rattle.heap_calls.proofs.NewBlocks.NewHandles.{agrees-more, kept-memory, kept-still}
use Rattle.heap_calls.proofs.Numbering.Answering.{at_place, look_up-refused}
use Rattle.heap_calls.proofs.Numbering.Changing.{memory-same}
use Rattle.heap_calls.proofs.Numbering.Memories.{memory_as, reply-as, placings_as, counted_as}
use Rattle.heap_calls.proofs.Numbering.Reserved.{fits-same}
use Rattle.heap_calls.proofs.Went.{unfound-is, unfound-gone}
use Rattle.heap_calls.proofs.heap.Heap.copy_handle.Given.{Over}
use Rattle.heap_calls.proofs.heap.Heap.copy_handle.Goals.{After-bytes, In_err-found, In_ok-found, In_default, After-name_handle}
use Rattle.heap_calls.proofs.heap.Heap.copy_handle.Goals as goal

pub returns-in_err-reserve-clause-stops : goal.returns-in_err-reserve-clause-stops
returns-in_err-reserve-clause-stops g c host =
    stops-at-once g.S.BlockStore.TAKES_HOST g.K.PurgeSink.told g.K.PurgeSink.listens KeepsNames _ _ c.args.self.now _ c.args.sink.now
    (λ m. refl) (rw c.reserve.ensures.items c.self.view_is)
    (rw (← c.self.view_is) (let full = c.in_err-reserve.ensures.full in let fits = c.self.inside.fits in
    omega (arith, length-map c.self.inside.names.items (name_of (g.S.BlockStore.rest c.self.inside.store).slots))))

-- a name that is no handle's
absent : (g : Over) (c : In_err-found g) → hand_to_hand c.args.handle (state_of (g.S.BlockStore.zone c.self.inside.store)
    (g.S.BlockStore.rest c.self.inside.store).slots c.self.inside.names.items)
    ≡ refused c.in_err-found.field-0.0 (state_of (g.S.BlockStore.zone c.self.inside.store)
    (g.S.BlockStore.rest c.self.inside.store).slots c.self.inside.names.items)
absent g c =
    let a = c.self.inside in
    let none : slot_of c.args.handle a.names.items ≡ Err c.in_err-found.field-0.0 =
    ap (slot_of c.args.handle) (sym c.deref.ensures.value) ∙ sym c.slot_of.ensures ∙ c.in_err-found.was in
    copy-none c.args.handle _ c.in_err-found.field-0.0 (look_up-refused (g.S.BlockStore.zone a.store)
    (g.S.BlockStore.rest a.store).slots a.names.items c.args.handle c.in_err-found.field-0.0 none)

pub returns-in_err-found-clause-answer : goal.returns-in_err-found-clause-answer
returns-in_err-found-clause-answer g c =
    let p = err_from_is_err_and c.from_residual.result c.from_residual.ensures.1 in
    let a = c.self.inside in
    rw (p.1, p.2) (unfound-is (g.S.BlockStore.zone a.store) (g.S.BlockStore.rest a.store) a.names.items a.log
    c.args.self.now.memory (memory_as c.self.view_is) (hand_to_hand c.args.handle) c.in_err-found.field-0.0
    (absent g (goal.at.returns-in_err-found-clause-answer g c).In_err-found))

-- the handle's entry
entry : (g : Over) (c : In_ok-found g) → (c.args.handle ≡ Some c.in_ok-found.found.number)
    × (slice_get c.self.inside.names.items c.in_ok-found.found.number
    ≡ Some (Handle c.in_ok-found.found.slot c.in_ok-found.found.guarded))
entry g c = slot-in c.self.inside.names.items c.deref.result.now c.args.handle c.in_ok-found.found c.deref.ensures.value
    (sym c.slot_of.ensures ∙ c.in_ok-found.was)

-- a handle whose block was emptied
emptied : (g : Over) (c : In_default g) → (c.args.handle ≡ Some c.in_ok-found.found.number)
    × (slice_get c.self.inside.names.items c.in_ok-found.found.number
    ≡ Some (Handle c.in_ok-found.found.slot c.in_ok-found.found.guarded))
    → hand_to_hand c.args.handle (state_of (g.S.BlockStore.zone c.self.inside.store)
    (g.S.BlockStore.rest c.self.inside.store).slots c.self.inside.names.items)
    ≡ refused NIL_HANDLE (state_of (g.S.BlockStore.zone c.self.inside.store)
    (g.S.BlockStore.rest c.self.inside.store).slots c.self.inside.names.items)
emptied g c is =
    copy-none c.args.handle _ NIL_HANDLE (copy-nil (g.S.BlockStore.zone c.self.inside.store)
    (g.S.BlockStore.rest c.self.inside.store) c.self.inside.names.items c.args.handle c.in_ok-found.found.number
    c.in_ok-found.found.slot is.0 is.1 c.self.invariant (omega arith) c.in_default.ensures)

pub returns-in_default-clause-answer : goal.returns-in_default-clause-answer
returns-in_default-clause-answer g c =
    let a = c.self.inside in
    unfound-is (g.S.BlockStore.zone a.store) (g.S.BlockStore.rest a.store) a.names.items a.log c.args.self.now.memory
    (memory_as c.self.view_is) (hand_to_hand c.args.handle) NIL_HANDLE
    (emptied g (goal.at.returns-in_default-clause-answer g c).In_default
    (entry g (goal.at.returns-in_default-clause-answer g c).In_ok-found))

-- what is copied
source : (g : Over) (c : After-bytes g) → Copied (g.S.BlockStore.zone c.self.inside.store) c.self.inside.names.items
    c.args.handle c.in_ok-found.found (length c.bytes.result.now)
source g c =
    let store = c.self.inside.store in
    let there = c.in-Some.ensures in
    let f = c.in_ok-found.found in
    let is = entry g c.before.before.before.before.before in
    let long = ap length (sym (at_place c.in-Some.place (g.S.BlockStore.zone store) there.0
    (λ s. c.bytes.result.now ≡ content_of s.here) there.2 c.bytes.ensures)) in
    let few = source-few (g.S.BlockStore.zone store) f.slot there.0 there.1 (g.met.S.BlockStore.small store) in
    record {
      is = is.0;
      at = is.1;
      small = omega arith;
      a = there.0;
      block = there.1;
      long = long;
      few = omega (arith, few, long);
    }

-- the entries and the store agree where the host has memory
agrees : (g : Over) (c : After-name_handle g) → Agrees (g.S.BlockStore.zone c.copy_block.new.store)
    (g.S.BlockStore.rest c.copy_block.new.store) (entered c.in_ok-made.made.slot c.self.inside.names.items)
agrees g c =
    let store = c.self.inside.store in
    made-agrees (g.S.BlockStore.zone store) (g.S.BlockStore.rest store) _ (g.met.S.BlockStore.masters store)
    c.self.invariant (g.met.S.BlockStore.no_block store) (g.S.BlockStore.rest c.copy_block.new.store) _
    c.copy_block.ensures.nonrelocatable c.in_ok-made.made.slot c.in_ok-made.ensures.slot

pub overflow_cast-size : goal.overflow_cast-size
overflow_cast-size g c = let few = (source g c).few in omega arith

pub invariant_of-self-in_err-made : goal.invariant_of-self-in_err-made
invariant_of-self-in_err-made g c = rw c.in_ok-reserve.ensures.items
    (agrees-more _ _ _ _ c.self.invariant c.copy_block.ensures.nonrelocatable c.in_err-made.ensures.kept)

-- what the call answers where the host has memory
told : (g : Over) (c : After-name_handle g) → Copied (g.S.BlockStore.zone c.self.inside.store) c.self.inside.names.items
    c.args.handle c.in_ok-found.found (length c.bytes.result.now)
    → doing_silently (hand_to_hand c.args.handle) c.args.self.now.memory
    ≡ (
      c.name_handle.result,
      memory_of (g.S.BlockStore.zone c.copy_block.new.store)
          (g.S.BlockStore.rest c.copy_block.new.store) c.name_handle.new.names.items c.count.new.self,
    )
told g c from =
    let a = c.self.inside in
    rw (c.name_handle.ensures.number, c.name_handle.ensures.entered, c.in_ok-reserve.ensures.items, c.count.ensures)
    (copied-answer (g.S.BlockStore.zone a.store) (g.S.BlockStore.rest a.store) a.names.items
    (g.met.S.BlockStore.masters a.store) c.self.invariant c.args.handle c.in_ok-found.found _ from
    (g.met.S.BlockStore.no_block a.store) a.log c.args.self.now.memory (memory_as c.self.view_is)
    (g.S.BlockStore.zone c.copy_block.new.store) (g.S.BlockStore.rest c.copy_block.new.store) c.in_ok-made.made.slot
    c.in_ok-made.made.searches c.in_ok-made.ensures.slot c.in_ok-made.ensures.went)

pub returns-in_err-name_handle-clause-answer : goal.returns-in_err-name_handle-clause-answer
returns-in_err-name_handle-clause-answer g c =
    let p = err_from_is_err_and c.from_residual-in_err-name_handle.result c.from_residual-in_err-name_handle.ensures.1 in
    rw (p.1, p.2) (reply-as (told g (goal.at.returns-in_err-name_handle-clause-answer g c).After-name_handle
    (source g (goal.at.returns-in_err-name_handle-clause-answer g c).After-bytes))
    c.in_err-name_handle.was)

pub returns-clause-answer : goal.returns-clause-answer
returns-clause-answer g c =
    reply-as (told g (goal.at.returns-clause-answer g c).After-name_handle
    (source g (goal.at.returns-clause-answer g c).After-bytes)) c.in_ok-name_handle.was

pub invariant_of-self-2 : goal.invariant_of-self-2
invariant_of-self-2 g c = rw (c.name_handle.ensures.entered, c.in_ok-reserve.ensures.items)
    (agrees g (goal.at.invariant_of-self-2 g c).After-name_handle)

pub invariant_of-self-in_err-name_handle : goal.invariant_of-self-in_err-name_handle
invariant_of-self-in_err-name_handle g c = rw (c.name_handle.ensures.entered, c.in_ok-reserve.ensures.items)
    (agrees g (goal.at.invariant_of-self-in_err-name_handle g c).After-name_handle)

pub returns-in_err-made-clause-stops : goal.returns-in_err-made-clause-stops
returns-in_err-made-clause-stops g c host =
    let a = c.self.inside in
    let zone = g.S.BlockStore.zone a.store in
    let zone' = g.S.BlockStore.zone c.copy_block.new.store in
    let rest = g.S.BlockStore.rest a.store in
    let rest' = g.S.BlockStore.rest c.copy_block.new.store in
    let es = a.names.items in
    let masters = g.met.S.BlockStore.masters a.store in
    let f = c.in_ok-found.found in
    let from = source g (goal.at.returns-in_err-made-clause-stops g c).After-bytes in
    let slots = ap (λ (e : List Anchor). zone_slot_gone e (One f.slot) rest.unused zone)
    (c.deref-2.ensures.value ∙ c.in_ok-reserve.ensures.items)
    ∙ copying_gone-is zone rest es masters c.self.invariant c.args.handle f _ from
    ∙ ap (λ (m : Memory). copying_gone (look_up c.args.handle m.heap) m.heap) (memory_as c.self.view_is) in
    stops-on-the-way g.S.BlockStore.TAKES_HOST g.K.PurgeSink.told g.K.PurgeSink.listens KeepsNames _ _ c.args.self.now _ c.args.sink.now _
    (kept-memory c.args.self.now.memory _ _ (g.S.BlockStore.rest a.store) (g.S.BlockStore.rest c.copy_block.new.store)
    a.names.items _ a.log (memory_as c.self.view_is) c.in_ok-reserve.ensures.items c.self.invariant
    c.in_err-made.ensures.kept)
    (elim c.in_err-made.ensures.left [
      | inl takes ↦ inl takes
      | inr left ↦ inr (elim left [
        | inl same ↦ inl (
          counted_as (ap (λ z. memory_of z rest' c.reserve.new.self.items a.log) same.0
              ∙ ap (λ (l : List Anchor). memory_of zone rest' l a.log) c.in_ok-reserve.ensures.items
              ∙ memory-same zone rest rest' es a.log same.1 ∙ (memory_as c.self.view_is))
              (same.1.placed ∙ placings_as c.self.view_is),
          same.2,
        )
        | inr slot ↦ inr (
          kept-still c.args.self.now.memory zone zone' rest rest' es c.reserve.new.self.items a.log (memory_as
              c.self.view_is)
              c.in_ok-reserve.ensures.items c.self.invariant slot.1 slot.2
              ∙ ap (λ z. record c.args.self.now.memory { heap = record c.args.self.now.memory.heap { zone = z } })
              (ap (λ (l : List Anchor). rename (handle_number l) (pointer_number l) zone') c.in_ok-reserve.ensures.items
              ∙ sym (copying_zone-is zone rest es masters c.self.invariant c.args.handle f _ from zone' slot.0)
              ∙ ap (λ (m : Memory). copying_zone (look_up c.args.handle m.heap) m.heap) (memory_as c.self.view_is)),
          subst (λ (l : List Gone). Tells g.K.PurgeSink.told l c.args.sink.now c.copy_block.new.sink) slots slot.3,
        )
      ])
    ])
    (c.in_err-made.ensures.host refl)

-- what the sink hears
heard : (g : Over) (c : After-name_handle g) → Copied (g.S.BlockStore.zone c.self.inside.store) c.self.inside.names.items
    c.args.handle c.in_ok-found.found (length c.bytes.result.now)
    → (done : Type 0)
    → Hears g.K.PurgeSink.told g.K.PurgeSink.waits g.K.PurgeSink.listens done
    (purges_made (hand_to_hand c.args.handle) c.args.self.now.memory.heap) c.args.sink.now c.copy_block.new.sink
heard g c from done =
    let a = c.self.inside in
    let zone = g.S.BlockStore.zone a.store in
    let rest = g.S.BlockStore.rest a.store in
    let f = c.in_ok-found.found in
    let same = ap (λ (e : List Anchor). told_along e (is_relocatable f.slot) (seek_new (One f.slot) rest.unused
    (length c.bytes.result.now) (fresh_block 0 (length c.bytes.result.now)) zone) zone)
    (c.deref-2.ensures.value ∙ c.in_ok-reserve.ensures.items)
    ∙ copied-gone zone rest a.names.items (g.met.S.BlockStore.masters a.store) c.self.invariant c.args.handle f _ from
    ∙ ap (λ (m : Memory). purges_made (hand_to_hand c.args.handle) m.heap) (memory_as c.self.view_is) in
    hears-as g.K.PurgeSink.told g.K.PurgeSink.waits g.K.PurgeSink.listens _ _ _ _ _ _ (λ some. refl) same
    c.in_ok-made.ensures.hears

pub returns-in_err-name_handle-clause-hears : goal.returns-in_err-name_handle-clause-hears
returns-in_err-name_handle-clause-hears g c = heard g (goal.at.returns-in_err-name_handle-clause-hears g c).After-name_handle
    (source g (goal.at.returns-in_err-name_handle-clause-hears g c).After-bytes) _

pub returns-clause-hears : goal.returns-clause-hears
returns-clause-hears g c = heard g (goal.at.returns-clause-hears g c).After-name_handle
    (source g (goal.at.returns-clause-hears g c).After-bytes) _

pub same-self : goal.same-self
same-self g c = fits-same _ _

pub same-self-in_default : goal.same-self-in_default
same-self-in_default g c = fits-same _ _

pub returns-in_err-found-clause-hears : goal.returns-in_err-found-clause-hears
returns-in_err-found-clause-hears g c =
    let a = c.self.inside in
    hears-none g.K.PurgeSink.told g.K.PurgeSink.waits g.K.PurgeSink.listens _ _ c.args.sink.now c.requires.idle
    (unfound-gone (g.S.BlockStore.zone a.store) (g.S.BlockStore.rest a.store) a.names.items a.log
    c.args.self.now.memory (memory_as c.self.view_is) (hand_to_hand c.args.handle) c.in_err-found.field-0.0
    (absent g (goal.at.returns-in_err-found-clause-hears g c).In_err-found))

pub returns-in_default-clause-hears : goal.returns-in_default-clause-hears
returns-in_default-clause-hears g c =
    let a = c.self.inside in
    hears-none g.K.PurgeSink.told g.K.PurgeSink.waits g.K.PurgeSink.listens _ _ c.args.sink.now c.requires.idle
    (unfound-gone (g.S.BlockStore.zone a.store) (g.S.BlockStore.rest a.store) a.names.items a.log
    c.args.self.now.memory (memory_as c.self.view_is) (hand_to_hand c.args.handle) NIL_HANDLE
    (emptied g (goal.at.returns-in_default-clause-hears g c).In_default
    (entry g (goal.at.returns-in_default-clause-hears g c).In_ok-found)))
