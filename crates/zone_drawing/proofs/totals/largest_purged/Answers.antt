use Rattle.zone_drawing.proofs.Cited.{sym, ◌∙◌, ap, drop_all, pass}
use Rattle.zone_drawing.proofs.Passing.{pass-all}
use Rattle.zone_drawing.proofs.totals.largest_purged.Goals as goal

pub returns : goal.returns
returns c zone is =
    let none = drop_all c.loop-block.block-index c.args.blocks.now c.loop-block-test.false in
    c.max.ensures ∙ ap (pass c.loop-block.run c.loop-block.best) (sym none) ∙ c.loop-block.invariant.0 ∙ ap (pass 0 0) is ∙ pass-all zone
