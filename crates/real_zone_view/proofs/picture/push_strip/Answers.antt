use Rattle.real_zone_view.proofs.Cited.{also, strip}
use Rattle.real_zone_view.proofs.picture.push_strip.Goals as goal

pub returns : goal.returns
unfolding strip
returns c = also c.args.text.now.items _ _ (also c.args.text.now.items _ _ (also c.args.text.now.items _ _ c.in_ok-push_strip_opened.ensures
    c.in_ok-push_all_bins.ensures) c.in_ok-push_mark.ensures) c.in_ok-put.ensures
