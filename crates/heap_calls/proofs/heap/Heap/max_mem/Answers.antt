use Rattle.heap_calls.proofs.Cited.{least_or_last-none, ◌≡◌, ◌∙◌, refl, sym, ap, None, Ok, length, arith, List, false, inr, rules, NO_ERR}
use Rattle.heap_calls.proofs.Cited.{runs, counted, Memory, all_moves, max_mem_moves, handle_number, pointer_number, compacted}
use Rattle.heap_calls.proofs.Cited.{lowered_in_runs, runs_settled, purged, KeepsSlots, Anchor, KeepsNames, gone_from, purgeable}
use Rattle.heap_calls.proofs.Numbering.PurgeTrials.{purged_all-is, max_mem-done, purgeable-rename}
use Rattle.block_store.specs.declared.sparing.Sparing.TheVariants as sparing
use Rattle.heap_calls.proofs.Numbering.Changing.{agrees-kept, unmoved, heap-same}
use Rattle.heap_calls.proofs.Room.MoveCounts.{moving-done}
use Rattle.heap_calls.proofs.Numbering.MoveNames.{purged_moves-rename}
use Rattle.heap_calls.proofs.Room.Staying.{nonrelocatable-purged, nonrelocatable-settled, nonrelocatable-same, nonrelocatable-then}
use Rattle.heap_calls.proofs.Numbering.Changing.{unmoved-is}
use Rattle.heap_calls.proofs.Numbering.Memories.{memory_as, placings_as}
use Rattle.heap_calls.proofs.heap.Heap.max_mem.Given.{Over}
use Rattle.heap_calls.proofs.heap.Heap.max_mem.Goals.{After-compact}
use Rattle.heap_calls.proofs.Hearing.{stops-halted, hears-as}
use Rattle.heap_calls.proofs.GoneBlocks.{told-all}
use Rattle.heap_calls.proofs.heap.Heap.max_mem.Goals as goal

-- the slots stay
kept : (g : Over) (c : After-compact g) → KeepsSlots (g.S.BlockStore.rest c.self.inside.store)
    (g.S.BlockStore.rest c.compact.new.store)
kept g c =
    let emptied = c.purge_telling.ensures.rest in
    let packed = c.compact.ensures.rest in
    record {
      slots = λ k. packed.slots k ∙ emptied.slots k;
      unused = packed.unused ∙ emptied.unused;
      all = packed.all ∙ emptied.all;
      moves = refl;
      placed = refl;
      window = packed.window ∙ emptied.window;
    }

pub returns-clause-answer : goal.returns-clause-answer
returns-clause-answer g c =
    let a = c.self.inside in
    let zone = g.S.BlockStore.zone a.store in
    let all = g.S.BlockStore.zone c.purge_telling.new.store in
    let zone' = g.S.BlockStore.zone c.compact.new.store in
    let rest = g.S.BlockStore.rest a.store in
    let rest' = g.S.BlockStore.rest c.compact.new.store in
    let es = a.names.items in
    let emptied = c.purge_telling.ensures.rest in
    let many = c.purgeable-purges.ensures in
    let is = purged_all-is zone all c.purgeable-purges.result (omega (arith, many)) c.in_ok-purge_telling.ensures.zone in
    let moves : max_mem_moves c.args.self.now.memory.heap ≡ lowered_in_runs (runs_settled None all) (runs all) =
    ap (λ (m : Memory). max_mem_moves m.heap) (sym (memory_as c.self.view_is)) ∙ purged_moves-rename (handle_number es)
    (pointer_number es) zone ∙ ap all_moves (sym is)
    ∙ ap (λ k. lowered_in_runs k (runs all)) (sym (least_or_last-none (length (runs all)))) in
    moving-done _ _ _ (Ok c.saturating_sub.result) zone' rest rest' es (record a.log { code = NO_ERR })
    (max_mem-done c.args.self.now.memory zone all zone' rest (unmoved rest rest') es a.log c.largest_free.result
    c.saturating_sub.result (memory_as c.self.view_is) is c.compact.ensures.zone
    (unmoved-is rest rest' (kept g (goal.at.returns-clause-answer g c).After-compact))
    c.largest_free.ensures c.saturating_sub.ensures)
    moves (c.compact.ensures.moves ∙ ap (λ k. counted k (lowered_in_runs (runs_settled None all) (runs all)))
    emptied.moves)

pub returns-clause-placed : goal.returns-clause-placed
returns-clause-placed g c =
    c.compact.ensures.placed ∙ c.purge_telling.ensures.rest.placed ∙ placings_as c.self.view_is

pub invariant_of-self-2 : goal.invariant_of-self-2
invariant_of-self-2 g c =
    let a = c.self.inside in
    let zone = g.S.BlockStore.zone a.store in
    let all = g.S.BlockStore.zone c.purge_telling.new.store in
    let zone' = g.S.BlockStore.zone c.compact.new.store in
    let purges = c.purgeable-purges.result in
    agrees-kept zone zone' (g.S.BlockStore.rest a.store) (g.S.BlockStore.rest c.compact.new.store) a.names.items
    c.self.invariant (nonrelocatable-then zone all zone' (nonrelocatable-then zone (purged purges sparing.Nothing zone) all
    (nonrelocatable-purged purges sparing.Nothing zone) (nonrelocatable-same (purged purges sparing.Nothing zone) all
    c.in_ok-purge_telling.ensures.zone)) (nonrelocatable-then all (compacted None all) zone' (nonrelocatable-settled (runs_settled None all)
    all) (nonrelocatable-same (compacted None all) zone' c.compact.ensures.zone))) (kept g (goal.at.invariant_of-self-2 g c).After-compact)

pub returns-in_err-purge_telling-clause-stops : goal.returns-in_err-purge_telling-clause-stops
returns-in_err-purge_telling-clause-stops g c host =
    let a = c.self.inside in
    stops-halted false g.K.PurgeSink.told g.K.PurgeSink.listens KeepsNames _ _ c.args.self.now _
    c.args.sink.now _ (search rules)
    (heap-same (g.S.BlockStore.zone a.store) (g.S.BlockStore.zone c.purge_telling.new.store) (g.S.BlockStore.rest a.store)
    (g.S.BlockStore.rest c.purge_telling.new.store) a.names.items a.names.items a.log c.self.view_is refl)
    (inr c.in_err-purge_telling.ensures.halts)

pub returns-clause-hears : goal.returns-clause-hears
returns-clause-hears g c =
    let a = c.self.inside in
    let zone = g.S.BlockStore.zone a.store in
    let rest = g.S.BlockStore.rest a.store in
    let es = a.names.items in
    let now = c.args.self.now.memory in
    let row = ap (λ (m : Memory). purgeable m.heap.zone) (sym (memory_as c.self.view_is))
    ∙ purgeable-rename (handle_number es) (pointer_number es) zone in
    let same = ap (λ (e : List Anchor). gone_from e sparing.Nothing c.purgeable-purges.result zone) c.deref.ensures.value
    ∙ told-all now zone rest es a.log c.purgeable-purges.result (purgeable now.heap.zone) (memory_as c.self.view_is)
    (c.purgeable-purges.ensures ∙ sym row) in
    hears-as g.K.PurgeSink.told g.K.PurgeSink.waits g.K.PurgeSink.listens _ _ _ _ _ _ (λ some. refl) same
    c.in_ok-purge_telling.ensures.hears
