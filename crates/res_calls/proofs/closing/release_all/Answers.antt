use Rattle.res_calls.proofs.Cited.{refl}
use Rattle.res_calls.proofs.LettingGo.{released_next}
use Rattle.res_calls.proofs.closing.release_all.Goals as goal

pub loop-i-preserved : goal.loop-i-preserved
loop-i-preserved g c =
    released_next c.args.map.now.references c.loop-i.i _ c.reference-handle.result.handle _ _ _
    c.reference-handle.ensures refl c.release_held.ensures c.loop-i.invariant
