use Rattle.real_zone_view.proofs.Cited.{◌++◌, ◌∙◌, ap, also, title_text, Style}
use Rattle.real_zone_view.proofs.picture.push_titles.Goals as goal

pub returns : goal.returns
returns c =
    let title = c.in_ok-push_title.ensures
    ∙ ap (λ (style : Style). c.put.new.text.items ++ title_text style c.args.form c.args.zone c.args.size) c.in_list.ensures in
    also c.args.text.now.items _ _ (also c.args.text.now.items _ _ (also c.args.text.now.items _ _
    (also c.args.text.now.items _ _ c.in_ok-put.ensures title) c.in_ok-put-2.ensures) c.in_ok-push_damaged.ensures) c.in_ok-put-3.ensures
