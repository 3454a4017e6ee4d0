use Rattle.zone_drawing.proofs.Cited.{◌++◌, ◌∙◌, List, ℕ, ap, map, svg_opened, overview, window_svg, view_line}
use Rattle.zone_drawing.proofs.Appending.{also}
use Rattle.zone_drawing.proofs.svg.write_window.Goals as goal

pub returns : goal.returns
unfolding window_svg
returns c =
    let head = c.in_ok-push_svg_opened.ensures ∙ ap (λ (x : ℕ). c.args.text.now.items ++ svg_opened x) c.height_of.ensures.height in
    let style = c.in_ok-put.ensures ∙ ap (λ (x : List ℕ). c.push_svg_opened.new.text.items ++ x) c.svg_style.ensures in
    let strips = c.in_ok-push_overview.ensures
    ∙ ap (λ (x : ℕ). c.push_title.new.text.items ++ overview c.args.window x (map view_line c.args.lines.now))
    c.least_above-least.ensures in
    also c.args.text.now.items _ _ (also c.args.text.now.items _ _ (also c.args.text.now.items _ _ (also c.args.text.now.items _ _
    (also c.args.text.now.items _ _ (head) style) c.in_ok-push_title.ensures) strips) c.in_ok-push_below.ensures) c.in_ok-put-2.ensures
