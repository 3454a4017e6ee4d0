use Rattle.zone_drawing.proofs.Cited.{◌++◌, ◌∙◌, List, ℕ, ap, escaped, moment_caption}
use Rattle.zone_drawing.proofs.Appending.{also}
use Rattle.zone_drawing.proofs.steps.push_caption.Goals as goal

pub returns : goal.returns
unfolding moment_caption
returns c =
    let words = c.in_ok-push_escaped.ensures ∙ ap (λ (x : List ℕ). c.put.new.text.items ++ escaped x) c.first.ensures in
    also c.args.text.now.items _ _ (also c.args.text.now.items _ _ c.in_ok-put.ensures words) c.in_ok-put-2.ensures
