use Rattle.zone_drawing.proofs.Cited.{◌++◌, ◌∙◌, ℕ, ap, codes, attribute, arrow}
use Rattle.zone_drawing.proofs.Appending.{also}
use Rattle.zone_drawing.proofs.steps.push_arrow.Goals as goal

pub returns : goal.returns
unfolding arrow
returns c =
    let one = c.in_ok-push_attribute.ensures ∙ ap (λ (x : ℕ). c.put.new.text.items ++ attribute (codes "x1") x) c.middle.ensures in
    let other = c.in_ok-push_attribute-2.ensures ∙ ap (λ (x : ℕ). c.push_attribute.new.text.items ++ attribute (codes "x2") x)
    c.middle-2.ensures in
    also c.args.text.now.items _ _ (also c.args.text.now.items _ _ (also c.args.text.now.items _ _ c.in_ok-put.ensures one) other)
    c.in_ok-put-2.ensures
