use Rattle.zone_drawing.proofs.Cited.{strip}
use Rattle.zone_drawing.proofs.Appending.{also}
use Rattle.zone_drawing.proofs.strip.push_strip.Goals as goal

pub returns : goal.returns
unfolding strip
returns c = also c.args.text.now.items _ _ (also c.args.text.now.items _ _ (also c.args.text.now.items _ _
    (also c.args.text.now.items _ _ c.in_ok-push_strip_opened.ensures c.in_ok-push_bins.ensures) c.in_ok-put.ensures)
    c.in_ok-push_bins-2.ensures) c.in_ok-put-2.ensures
