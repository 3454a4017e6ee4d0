use Rattle.zone_drawing.proofs.Cited.{passed_words}
use Rattle.zone_drawing.proofs.Appending.{also}
use Rattle.zone_drawing.proofs.steps.push_passed_words.Goals as goal

pub returns : goal.returns
unfolding passed_words
returns c = also c.args.text.now.items _ _ (also c.args.text.now.items _ _ c.in_ok-put.ensures c.in_ok-push_numbers.ensures)
    c.in_ok-put-2.ensures
