use Rattle.heap_calls.proofs.Cited.{◌≡◌, ◌+◌, sym, ◌∙◌, ap, Ok, arith, NO_ERR, runs, compacted, lowered_in_runs, runs_settled, Memory}
use Rattle.heap_calls.proofs.Cited.{compact_mem, noting, compact_mem_moves, stretches, compact_mem_searches, memory_of, handle_number}
use Rattle.heap_calls.proofs.Cited.{pointer_number}
use Rattle.heap_calls.proofs.Numbering.Changing.{agrees-kept, unmoved, unmoved-is}
use Rattle.heap_calls.proofs.Room.MoveCounts.{moving-done}
use Rattle.heap_calls.proofs.Numbering.MoveNames.{settled_falls-rename}
use Rattle.heap_calls.proofs.Room.Staying.{nonrelocatable-settled, nonrelocatable-same, nonrelocatable-then}
use Rattle.heap_calls.proofs.Numbering.Largest.{compact_mem-done, settled_stretches-rename}
use Rattle.heap_calls.proofs.Numbering.PurgeTrials.{searching-done, runs_settled-few}
use Rattle.heap_calls.proofs.Room.Stretches.{stretches-le}
use Rattle.heap_calls.proofs.Numbering.Memories.{memory_as, placings_as}
use Rattle.heap_calls.proofs.heap.Heap.compact_mem.Goals as goal

pub overflow_add-stretches : goal.overflow_add-stretches
overflow_add-stretches g c =
    let zone = g.S.BlockStore.zone c.self.inside.store in
    omega (
      arith,
      c.compact-stretches.ensures.runs,
      stretches-le (runs_settled c.phys.result zone) (runs zone),
      runs_settled-few c.phys.result zone,
      g.met.S.BlockStore.small c.self.inside.store,
    )

pub returns-clause-answer : goal.returns-clause-answer
returns-clause-answer g c =
    let a = c.self.inside in
    let zone = g.S.BlockStore.zone a.store in
    let zone' = g.S.BlockStore.zone c.compact-stretches.new.store in
    let rest = g.S.BlockStore.rest a.store in
    let rest' = g.S.BlockStore.rest c.compact-stretches.new.store in
    let es = a.names.items in
    let searches : compact_mem_searches c.args.size c.args.self.now.memory.heap ≡ c.compact-stretches.result + 1 =
    ap (λ (m : Memory). compact_mem_searches c.args.size m.heap) (sym (memory_as c.self.view_is))
    ∙ ap (λ k. k + 1) (settled_stretches-rename (handle_number es) (pointer_number es) _ zone
    ∙ ap (λ p. stretches (runs_settled p zone) (runs zone)) (sym c.phys.ensures)
    ∙ sym c.compact-stretches.ensures.runs) in
    let moves : compact_mem_moves c.args.size c.args.self.now.memory.heap
    ≡ lowered_in_runs (runs_settled c.phys.result zone)
    (runs zone) =
    ap (λ (m : Memory). compact_mem_moves c.args.size m.heap) (sym (memory_as c.self.view_is))
    ∙ settled_falls-rename (handle_number es) (pointer_number es) _ zone
    ∙ ap (λ p. lowered_in_runs (runs_settled p zone) (runs zone)) (sym c.phys.ensures) in
    moving-done _ _ _ (Ok c.saturating_sub-most.result) zone' rest rest' es c.count.new.self
    (searching-done _ _ (noting (compact_mem c.args.size) c.args.self.now.memory) (Ok c.saturating_sub-most.result)
    (memory_of zone' (unmoved rest rest') es (record a.log { code = NO_ERR }))
    (memory_of zone' (unmoved rest rest') es c.count.new.self)
    (compact_mem-done c.args.self.now.memory c.args.size zone zone' rest (unmoved rest rest') es a.log
    c.largest_free.result c.saturating_sub-most.result
    (memory_as c.self.view_is) (c.compact-stretches.ensures.zone ∙ ap (λ p. compacted p zone) c.phys.ensures)
    (unmoved-is rest rest' c.compact-stretches.ensures.rest) c.largest_free.ensures c.saturating_sub-most.ensures)
    searches (ap (memory_of zone' (unmoved rest rest') es) c.count.ensures))
    moves c.compact-stretches.ensures.moves

pub returns-clause-placed : goal.returns-clause-placed
returns-clause-placed g c = c.compact-stretches.ensures.placed ∙ placings_as c.self.view_is

pub invariant_of-self : goal.invariant_of-self
invariant_of-self g c =
    let a = c.self.inside in
    let zone = g.S.BlockStore.zone a.store in
    let zone' = g.S.BlockStore.zone c.compact-stretches.new.store in
    agrees-kept zone zone' (g.S.BlockStore.rest a.store) (g.S.BlockStore.rest c.compact-stretches.new.store)
    a.names.items c.self.invariant
    (nonrelocatable-then zone (compacted c.phys.result zone) zone' (nonrelocatable-settled (runs_settled c.phys.result zone) zone)
    (nonrelocatable-same (compacted c.phys.result zone) zone' c.compact-stretches.ensures.zone)) c.compact-stretches.ensures.rest
