use Rattle.fork_edits.proofs.Cited.{map, refl, view_row}
use Rattle.fork_edits.proofs.Gathering.{replaced_further}
use Rattle.fork_edits.proofs.merging.push_all_replaced.Goals as goal

pub loop-old-init : goal.loop-old-init
loop-old-init c = (map view_row c.args.news.now, c.in_ok-waiting.ensures, refl)

pub loop-old-preserved : goal.loop-old-preserved
loop-old-preserved c =
    let rest = c.loop-old.invariant.0 in (
      _,
      c.in_ok-push_replaced.ensures.others rest c.loop-old.invariant.1,
      replaced_further c.args.olds.now
          c.loop-old.old-index c.old-item.result rest (map view_row c.loop-old.out.items) _ _ c.loop-old-test.true
          c.old-item.is (c.in_ok-push_replaced.ensures.pushed rest c.loop-old.invariant.1) c.loop-old.invariant.2,
    )
