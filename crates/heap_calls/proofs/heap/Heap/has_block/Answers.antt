use Rattle.heap_calls.proofs.Cited.{Some, sym, ◌∙◌, ap, arith, is_relocatable, has, Memory, slot_of}
use Rattle.heap_calls.proofs.Numbering.Roles.{entry-of, block-there, block-none}
use Rattle.heap_calls.proofs.Numbering.Memories.{memory_as}
use Rattle.heap_calls.proofs.heap.Heap.has_block.Goals as goal

pub returns-in_default : goal.returns-in_default
returns-in_default g c =
    let a = c.self.inside in
    let h = c.args.number in
    let none = ap (slot_of (Some h)) (sym c.deref.ensures.value) ∙ sym c.slot_of.ensures ∙ c.in_default.is in
    sym (block-none (g.S.BlockStore.zone a.store) (g.S.BlockStore.rest a.store).slots a.names.items h
    c.in_default.field-0 none (omega arith))
    ∙ ap (λ (m : Memory). has (is_relocatable h) m.heap.zone) (memory_as c.self.view_is)

pub returns : goal.returns
returns g c =
    let a = c.self.inside in
    let h = c.args.number in
    let f = c.in-Ok.found in
    let at = entry-of a.names.items c.deref.result.now h f c.deref.ensures.value (sym c.slot_of.ensures ∙ c.in-Ok.is) in
    c.is_some.ensures
    ∙ block-there (g.S.BlockStore.zone a.store) (g.S.BlockStore.rest a.store).slots a.names.items h f.slot
    c.place_of.result at c.self.invariant.apart (omega arith) c.place_of.ensures
    ∙ ap (λ (m : Memory). has (is_relocatable h) m.heap.zone) (memory_as c.self.view_is)
