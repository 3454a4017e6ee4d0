use Rattle.res_calls.proofs.Cited.{map, undone, view_file}
use Rattle.res_calls.proofs.PuttingBack.{restored_next}
use Rattle.res_calls.proofs.undoing.restore_all.Goals as goal

pub loop-last-preserved : goal.loop-last-preserved
loop-last-preserved c =
    restored_next c.loop-last.undo.items c.pop.new.self.items c.pop.result c.in-Some.last
    (map view_file c.loop-last.files.items) (map view_file c.restore.new.files.items)
    (undone c.args.undo.items (map view_file c.args.files.now.items)) c.pop.ensures.items c.in-Some.is
    c.restore.ensures c.loop-last.invariant
