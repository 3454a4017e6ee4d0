use Rattle.fork_edits.proofs.Cited.{map, refl, view_row, view_difference}
use Rattle.fork_edits.proofs.Pairing.{alone_further}
use Rattle.fork_edits.proofs.differences.note_added.Goals as goal

pub loop-new-init : goal.loop-new-init
loop-new-init c = (map view_row c.args.olds.now, c.in_ok-waiting.ensures, refl)

pub loop-new-preserved : goal.loop-new-preserved
loop-new-preserved c =
    let rest = c.loop-new.invariant.0 in (
      _,
      c.in_ok-note_alone.ensures.others rest c.loop-new.invariant.1,
      alone_further c.args.news.now
          c.loop-new.new-index c.new-item.result rest (map view_difference c.loop-new.found.items) _ _ c.loop-new-test.true
          c.new-item.is (c.in_ok-note_alone.ensures.noted rest c.loop-new.invariant.1) c.loop-new.invariant.2,
    )
