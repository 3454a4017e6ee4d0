use Rattle.zone_drawing.proofs.Cited.{◌++◌, ◌∙◌, ℕ, ap, length, map, sym, length-map, block_count, least_of, steps_window, view_moment}
use Rattle.zone_drawing.proofs.steps.write_by.Goals as goal

pub returns : goal.returns
returns c =
    let ms = map view_moment c.args.moments.now in
    let strips = length c.args.moments.now in
    c.in_ok-write_window.ensures
    ∙ ap (λ (l : ℕ). c.args.text.now.items ++ steps_window c.args.size c.args.window c.args.count strips l ms)
    (c.least_of-least.ensures ∙ ap (λ (b : ℕ). least_of c.args.window b strips) c.block_count.ensures)
    ∙ ap (λ (n : ℕ). c.args.text.now.items
    ++ steps_window c.args.size c.args.window c.args.count n (least_of c.args.window (block_count ms) n) ms)
    (sym (length-map c.args.moments.now view_moment))
