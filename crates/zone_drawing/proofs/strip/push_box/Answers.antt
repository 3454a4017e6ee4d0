use Rattle.zone_drawing.proofs.Cited.{◌++◌, ◌∙◌, Bool, List, ℕ, ap, map, all_parts, bin_box, box_class, box_opened, view_line, Extent}
use Rattle.zone_drawing.proofs.Appending.{also}
use Rattle.zone_drawing.proofs.strip.push_box.Goals as goal

pub returns : goal.returns
unfolding bin_box
returns c =
    let opened = c.in_ok-push_box_opened.ensures
    ∙ ap (λ (x : List ℕ). c.args.text.now.items ++ box_opened x)
    (c.box_class.ensures ∙ ap (λ (b : Bool). box_class b (map view_line c.args.bin.now)) c.is_narrow-narrow.ensures) in
    let all = c.in_ok-push_all_parts.ensures
    ∙ ap (λ (e : Extent). c.put.new.text.items ++ all_parts c.args.extent.size e (map view_line c.args.bin.now)) c.in_units.ensures in
    also c.args.text.now.items _ _ (also c.args.text.now.items _ _ (also c.args.text.now.items _ _
    (also c.args.text.now.items _ _ (opened) c.in_ok-push_title.ensures) c.in_ok-put.ensures) all) c.in_ok-put-2.ensures
