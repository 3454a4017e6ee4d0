use Rattle.heap_calls.proofs.Cited.{refl, ◌∙◌, ap, purge, largest_free, GREATEST_ZONE, nothing, purged_all}
use Rattle.heap_calls.proofs.Numbering.PurgeTrials.{all-gone, purged_all-is, purge_space-done}
use Rattle.heap_calls.proofs.Numbering.Memories.{memory_as}
use Rattle.heap_calls.proofs.heap.Heap.purge_space.Goals as goal

pub returns : goal.returns
returns g c =
    let a = c.self.inside in
    let zone = g.S.BlockStore.zone a.store in
    let all = purged_all-is zone (purge GREATEST_ZONE nothing zone) GREATEST_ZONE (all-gone zone (g.met.S.BlockStore.small a.store))
    refl in
    purge_space-done c.args.self.now.memory zone (purged_all zone) (g.S.BlockStore.rest a.store) a.names.items a.log
    c.free_if_purged.result c.largest_after.result c.saturating_sub.result (memory_as c.self.view_is) refl
    c.free_if_purged.ensures
    (c.largest_after.ensures ∙ ap largest_free all) c.saturating_sub.ensures
