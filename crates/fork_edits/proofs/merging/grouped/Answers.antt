use Rattle.fork_edits.proofs.Cited.{map, view_group}
use Rattle.fork_edits.proofs.Gathering.{rows_further}
use Rattle.fork_edits.proofs.merging.grouped.Goals as goal

pub loop-row-preserved : goal.loop-row-preserved
loop-row-preserved c = record {
  places = c.in_ok-put_row.ensures.places;
  groups = rows_further c.args.rows.now c.loop-row.row-index c.row-item.result (map view_group c.loop-row.groups.items) _ _
      c.loop-row-test.true c.row-item.is c.in_ok-put_row.ensures.groups c.loop-row.invariant.groups;
}
