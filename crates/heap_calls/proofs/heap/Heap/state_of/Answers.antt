use Rattle.heap_calls.proofs.Cited.{◌≡◌, ◌+◌, ℕ, Ok, Err, sym, ◌∙◌, ap, arith, err_from_is_err_and, rename_block, rename_spot, Memory}
use Rattle.heap_calls.proofs.Cited.{seen_flags, bit, block_bits, handle_at, bits_of, state_of, handle_number, pointer_number}
use Rattle.heap_calls.proofs.Numbering.Answering.{refused_for, found_in, on_found, held}
use Rattle.heap_calls.proofs.Numbering.Hoisting.{seen-at}
use Rattle.heap_calls.proofs.Numbering.Loosening.{bits_answer, role_bit, h_get_state-bits, block_bits-rename}
use Rattle.heap_calls.proofs.Numbering.Memories.{memory_as}
use Rattle.heap_calls.proofs.heap.Heap.state_of.Goals.{then-is_resource, else-is_resource}
use Rattle.heap_calls.proofs.heap.Heap.state_of.Goals as goal

pub returns-in_err-place : goal.returns-in_err-place
returns-in_err-place g c =
    let p = err_from_is_err_and c.from_residual.result c.from_residual.ensures.1 in
    let a = c.self.inside in
    let zone = g.S.BlockStore.zone a.store in
    let rest = g.S.BlockStore.rest a.store in
    let value = c.args.self.now.memory in
    let e = c.in_err-place.field-0.0 in
    let found = found_in zone rest.slots a.names.items _ c.args.handle (Err e) c.deref.ensures.value
    c.in_err-place.ensures in
    rw (p.1, p.2) (h_get_state-bits c.args.handle value zone rest a.names.items a.log (memory_as c.self.view_is)
    ∙ refused_for e zone rest a.names.items a.log c.args.handle value (memory_as c.self.view_is) found (bits_answer _))

pub returns : goal.returns
returns g c =
    let a = c.self.inside in
    let zone = g.S.BlockStore.zone a.store in
    let rest = g.S.BlockStore.rest a.store in
    let es = a.names.items in
    let value = c.args.self.now.memory in
    let found = found_in zone rest.slots es _ c.args.handle (Ok c.in_ok-place.place) c.deref.ensures.value
    c.in_ok-place.ensures in
    let bits : block_bits (rename_block (handle_number es) (pointer_number es) found.1.here) ≡ c.bits_of-bits.result =
    block_bits-rename (handle_number es) (pointer_number es) found.1.here
    ∙ sym (seen-at (λ o. bits_of (seen_flags o)) c.in_ok-place.place zone found.1 c.block_at.result found.3
    c.block_at.ensures)
    ∙ sym (ap bits_of c.flags_of.ensures) ∙ sym c.bits_of-bits.ensures in
    let more = role_bit (handle_at c.args.handle (state_of zone rest.slots es)) in
    let resource : c.if-is_resource.resource ≡ bit 32 c.is_resource.result = elim c.if-is_resource.branch [
      | then-is_resource w ↦ w.resource-is ∙ sym (ap (bit 32) w.if-is_resource.true)
      | else-is_resource w ↦ w.resource-is ∙ sym (ap (bit 32) w.if-is_resource.false)
    ] in
    let told : c.if-is_resource.resource ≡ more = resource ∙ ap (bit 32) c.is_resource.ensures
    ∙ sym (ap (λ (m : Memory). role_bit (handle_at c.args.handle m.heap)) (memory_as c.self.view_is)) in
    let sum : block_bits (rename_block (handle_number es) (pointer_number es) found.1.here) + more
    ≡ c.bits_of-bits.result + c.if-is_resource.resource = omega (arith, bits, told) in
    h_get_state-bits c.args.handle value zone rest es a.log (memory_as c.self.view_is)
    ∙ on_found zone rest es a.log c.args.handle value (held found.0
    (rename_spot (handle_number es) (pointer_number es) found.1)) (memory_as c.self.view_is) found.2 (bits_answer more)
    ∙ ap (λ (k : ℕ). (Ok k, value)) sum
