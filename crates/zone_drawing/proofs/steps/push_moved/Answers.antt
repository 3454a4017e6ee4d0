use Rattle.zone_drawing.proofs.Cited.{◌++◌, ◌∙◌, List, ℕ, ap, map, get, nat_cmp, extent_of, view_line}
use Rattle.zone_drawing.proofs.Appending.{also}
use Rattle.zone_drawing.proofs.Moving.{same-arrows}
use Rattle.zone_drawing.proofs.steps.push_moved.Goals as goal

pub returns : goal.returns
returns c =
    let arrows = c.in_ok-push_arrows.ensures ∙ ap (λ (x : List ℕ). c.put.new.text.items ++ x)
    (same-arrows c.args.window c.args.least (get nat_cmp c.in_ok-below.below) (extent_of (map view_line c.args.lower.now))
    c.in_ok-below.ensures (map view_line c.args.upper.now)) in
    also c.args.text.now.items _ _ (also c.args.text.now.items _ _ c.in_ok-put.ensures arrows) c.in_ok-put-2.ensures
