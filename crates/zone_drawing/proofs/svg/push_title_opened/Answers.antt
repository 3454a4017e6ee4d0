use Rattle.zone_drawing.proofs.Cited.{title_opened}
use Rattle.zone_drawing.proofs.Appending.{also}
use Rattle.zone_drawing.proofs.svg.push_title_opened.Goals as goal

pub returns : goal.returns
unfolding title_opened
returns c = also c.args.text.now.items _ _ (also c.args.text.now.items _ _ (also c.args.text.now.items _ _ c.in_ok-put.ensures
    c.in_ok-push_part_words.ensures) c.in_ok-put-2.ensures) c.in_ok-push_decimal.ensures
