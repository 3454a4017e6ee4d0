use Rattle.real_zone_view.proofs.Cited.{◌++◌, ◌∙◌, List, ℕ, ap, also, picture_by}
use Rattle.real_zone_view.proofs.picture.push_picture_by.Goals as goal

pub returns : goal.returns
unfolding picture_by
returns c =
    let style = c.in_ok-put.ensures ∙ ap (λ (x : List ℕ). c.push_svg_opened.new.text.items ++ x) c.svg_style.ensures in
    let legend = c.in_ok-put-2.ensures ∙ ap (λ (x : List ℕ). c.push_titles.new.text.items ++ x) c.svg_legend.ensures in
    also c.args.text.now.items _ _ (also c.args.text.now.items _ _ (also c.args.text.now.items _ _ (also c.args.text.now.items _ _
    (also c.args.text.now.items _ _ (also c.args.text.now.items _ _ c.in_ok-push_svg_opened.ensures style) c.in_ok-push_titles.ensures)
    legend) c.in_ok-push_strip.ensures) c.in_ok-push_rows.ensures) c.in_ok-put-3.ensures
