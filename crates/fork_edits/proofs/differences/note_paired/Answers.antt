use Rattle.fork_edits.proofs.Cited.{map, refl, view_row, view_difference}
use Rattle.fork_edits.proofs.Pairing.{paired_further}
use Rattle.fork_edits.proofs.differences.note_paired.Goals as goal

pub loop-old-init : goal.loop-old-init
loop-old-init c = (map view_row c.args.news.now, c.in_ok-waiting.ensures, refl)

pub loop-old-preserved : goal.loop-old-preserved
loop-old-preserved c =
    let rest = c.loop-old.invariant.0 in (
      _,
      c.in_ok-note_compared.ensures.others rest c.loop-old.invariant.1,
      paired_further c.args.olds.now
          c.loop-old.old-index c.old-item.result rest (map view_difference c.loop-old.found.items) _ _ c.loop-old-test.true
          c.old-item.is (c.in_ok-note_compared.ensures.noted rest c.loop-old.invariant.1) c.loop-old.invariant.2,
    )
