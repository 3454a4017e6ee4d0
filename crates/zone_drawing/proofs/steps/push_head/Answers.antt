use Rattle.zone_drawing.proofs.Cited.{◌++◌, ◌∙◌, List, ℕ, ap, steps_head}
use Rattle.zone_drawing.proofs.Appending.{also}
use Rattle.zone_drawing.proofs.steps.push_head.Goals as goal

pub returns : goal.returns
unfolding steps_head
returns c =
    let style = c.in_ok-put.ensures ∙ ap (λ (x : List ℕ). c.args.text.now.items ++ x) c.svg_style.ensures in
    let arrows = c.in_ok-put-2.ensures ∙ ap (λ (x : List ℕ). c.put.new.text.items ++ x) c.arrow_style.ensures in
    also c.args.text.now.items _ _ (also c.args.text.now.items _ _ (also c.args.text.now.items _ _
    (also c.args.text.now.items _ _ (style) arrows) c.in_ok-push_title.ensures) c.in_ok-push_legend.ensures) c.in_ok-push_scale_at.ensures
