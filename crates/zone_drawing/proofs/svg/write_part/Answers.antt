use Rattle.zone_drawing.proofs.Cited.{◌++◌, ◌∙◌, ℕ, ap, map, sym, length-map, window_svg, view_line}
use Rattle.zone_drawing.proofs.svg.write_part.Goals as goal

pub returns : goal.returns
returns c = c.in_ok-write_window.ensures
    ∙ ap (λ (n : ℕ). c.args.text.now.items ++ window_svg c.args.size c.args.window n (map view_line c.args.shown.now) c.args.step.now)
    (sym (length-map c.args.shown.now view_line))
