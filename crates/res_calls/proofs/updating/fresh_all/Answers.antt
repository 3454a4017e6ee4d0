use Rattle.res_calls.proofs.Cited.{view_lent}
use Rattle.res_calls.proofs.WritingAnew.{fresh_next}
use Rattle.res_calls.proofs.updating.fresh_all.Goals as goal

pub loop-i-preserved : goal.loop-i-preserved
loop-i-preserved g c =
    fresh_next c.args.heap.now.memory.heap c.args.file.now.references c.loop-i.i (view_lent c.reference.result)
    c.loop-i.all.items c.push.new.self.items c.in_ok-next.next _ c.reference.ensures c.in_ok-next.ensures
    c.in_ok-push.ensures.items c.loop-i.invariant
