use Rattle.zone_drawing.proofs.Cited.{◌≡◌, ◌++◌, ◌∙◌, ℕ, List, ap, append_assoc, codes, map, cleared_lines, part_between, part_moment}
use Rattle.zone_drawing.proofs.Cited.{parts, purged_lines, Line, Moment, view_kept}
use Rattle.zone_drawing.proofs.inside.push_parts.Goals as goal

-- both strips, one after the other
both : (old mid new : List Moment) (before after : List Line) (number : ℕ) (purged cleared : List Line)
    → purged ≡ purged_lines before after → cleared ≡ cleared_lines before after
    → mid ≡ old ++ part_between before after (part_moment number (codes ": blocks purged") purged)
    → new ≡ mid ++ part_between purged after (part_moment number (codes ": room made") cleared)
    → new ≡ old ++ parts before number after
both old mid new before after number purged cleared gone made one other =
    let last : List Moment = part_between purged after (part_moment number (codes ": room made") cleared) in
    other ∙ ap (λ (x : List Moment). x ++ last) one
    ∙ append_assoc old (part_between before after (part_moment number (codes ": blocks purged") purged)) last
    ∙ (λ i. old ++ (part_between before after (part_moment number (codes ": blocks purged") (gone i))
    ++ part_between (gone i) after (part_moment number (codes ": room made") (made i))))

pub returns : goal.returns
returns c = both _ _ _ (map view_kept c.args.before.now) (map view_kept c.args.after.now) c.args.number _ _
    (ap (map view_kept) c.as_slice-purged.ensures.value ∙ c.in_ok-purged.ensures)
    (ap (map view_kept) c.as_slice-cleared.ensures.value ∙ c.in_ok-cleared.ensures)
    c.in_ok-push_between.ensures c.in_ok-push_between-2.ensures
