use Rattle.zone_drawing.proofs.Appending.{also}
use Rattle.zone_drawing.proofs.listing.write_zone.Goals as goal

pub returns : goal.returns
returns c = also c.args.text.now.items _ _ (also c.args.text.now.items _ _ c.in_ok-push_blocks.ensures c.in_ok-push_totals.ensures)
    c.in_ok-push_after.ensures
