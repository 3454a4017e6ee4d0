use Rattle.real_zone_view.proofs.Cited.{also}
use Rattle.real_zone_view.proofs.picture.push_full_bin.Goals as goal

pub returns : goal.returns
returns c = also c.args.text.now.items _ _ (also c.args.text.now.items _ _
    (also c.args.text.now.items _ _ c.in_ok-push_box.ensures c.in_ok-put.ensures) c.in_ok-push_bin_title.ensures) c.in_ok-put-2.ensures
