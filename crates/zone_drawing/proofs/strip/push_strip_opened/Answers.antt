use Rattle.zone_drawing.proofs.Cited.{◌++◌, ◌∙◌, ◌/◌, ℕ, ap, decimal, strip_opened}
use Rattle.zone_drawing.proofs.Appending.{also}
use Rattle.zone_drawing.proofs.strip.push_strip_opened.Goals as goal

pub returns : goal.returns
unfolding strip_opened
returns c =
    let from = c.in_ok-push_decimal.ensures ∙ ap (λ (x : ℕ). c.put.new.text.items ++ decimal (c.args.window.from / x))
    c.unit-unit.ensures.unit in
    let width = c.in_ok-push_decimal-2.ensures ∙ ap (λ (x : ℕ). c.put-2.new.text.items ++ decimal (c.args.window.width / x))
    c.unit-unit.ensures.unit in
    also c.args.text.now.items _ _ (also c.args.text.now.items _ _ (also c.args.text.now.items _ _ (also c.args.text.now.items _ _
    c.in_ok-put.ensures from) c.in_ok-put-2.ensures) width) c.in_ok-put-3.ensures
