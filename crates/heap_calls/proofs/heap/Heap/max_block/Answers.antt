use Rattle.heap_calls.proofs.Cited.{◌≡◌, ◌-◌, ◌+◌, ◌<◌, ◌∙◌, None, ℕ, sym, ap, subst, Ok, NO_ERR, Memory, max_block, noting, memory_of}
use Rattle.heap_calls.proofs.Cited.{IfSome, IsSome, phys, place, most-placed, no_more-placed}
use Rattle.heap_calls.proofs.Numbering.Largest.{largest_run-rename}
use Rattle.heap_calls.proofs.Numbering.Memories.{memory_as}
use Rattle.heap_calls.proofs.heap.Heap.max_block.Goals as goal

pub returns-clause-answer : goal.returns-clause-answer
returns-clause-answer g c =
    let a = c.self.inside in
    let zone = g.S.BlockStore.zone a.store in
    let rest = g.S.BlockStore.rest a.store in
    let most = c.saturating_sub.result in
    let P : Memory → Type 0 = λ m. noting max_block m ≡ (Ok most, record m { log = record m.log { code = NO_ERR } }) in
    let here : P (memory_of zone rest a.names.items a.log) =
    ap (λ (n : ℕ). (
      Ok (n - 16),
      record (memory_of zone rest a.names.items a.log) { log = record a.log { code = NO_ERR } },
    )) (largest_run-rename _ _ zone ∙ sym c.largest_run.ensures)
    ∙ ap (λ (n : ℕ). (Ok n, record (memory_of zone rest a.names.items a.log) { log = record a.log { code = NO_ERR } }))
    (sym c.saturating_sub.ensures) in
    subst P (memory_as c.self.view_is) here ∙ ap (λ (m : Memory). (
      Ok most,
      record m {
        log = record m.log {
          code =
              NO_ERR;
        };
      },
    ))
    (sym (memory_as c.self.view_is))

pub returns-clause-room : goal.returns-clause-room
returns-clause-room g c =
    let a = c.self.inside in
    let n = c.saturating_sub.result in
    let P : Memory → Type 0 = λ m. 0 < n → IfSome (phys n) (λ p. IsSome (place p m.heap.zone)) in
    subst P (memory_as c.self.view_is) (most-placed _ _ (g.S.BlockStore.zone a.store) n c.largest_run.result
    (g.met.S.BlockStore.aligned a.store) c.largest_run.ensures c.saturating_sub.ensures)

pub returns-clause-no_more : goal.returns-clause-no_more
returns-clause-no_more g c =
    let a = c.self.inside in
    let n = c.saturating_sub.result in
    let P : Memory → Type 0 = λ m. IfSome (phys (n + 1)) (λ p. place p m.heap.zone ≡ None) in
    subst P (memory_as c.self.view_is) (no_more-placed _ _ (g.S.BlockStore.zone a.store) n c.largest_run.result
    c.largest_run.ensures c.saturating_sub.ensures)
