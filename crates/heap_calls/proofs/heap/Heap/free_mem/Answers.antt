use Rattle.heap_calls.proofs.Cited.{◌≡◌, ◌∙◌, ℕ, sym, ap, subst, Ok, NO_ERR, Memory, free_mem, noting, memory_of}
use Rattle.heap_calls.proofs.Numbering.Changing.{free_sum-rename}
use Rattle.heap_calls.proofs.Numbering.Memories.{memory_as}
use Rattle.heap_calls.proofs.heap.Heap.free_mem.Goals as goal

pub returns : goal.returns
returns g c =
    let a = c.self.inside in
    let zone = g.S.BlockStore.zone a.store in
    let rest = g.S.BlockStore.rest a.store in
    let P : Memory → Type 0 = λ m. noting free_mem m ≡ (
      Ok c.free_bytes.result,
      record m { log = record m.log { code = NO_ERR } },
    ) in
    let here : P (memory_of zone rest a.names.items a.log) =
    ap (λ (n : ℕ). (Ok n, record (memory_of zone rest a.names.items a.log) { log = record a.log { code = NO_ERR } }))
    (free_sum-rename _ _ zone ∙ sym c.free_bytes.ensures) in
    subst P (memory_as c.self.view_is) here ∙ ap (λ (m : Memory). (
      Ok c.free_bytes.result,
      record m { log = record m.log { code = NO_ERR } },
    )) (sym (memory_as c.self.view_is))
