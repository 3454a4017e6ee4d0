use Rattle.fork_edits.proofs.Cited.{◌≡◌, ◌∙◌, ◌∷◌, None, sym, ap, find, filter, Row, is_at, is_same, view_row, AreWaiting}
use Rattle.fork_edits.proofs.Doubles.{without_itself}
use Rattle.fork_edits.proofs.Gathering.{found_none}
use Rattle.fork_edits.proofs.Keeping.{all_others}
use Rattle.fork_edits.proofs.twins.has_twin.Goals as goal

pub returns-clause-rest : goal.returns-clause-rest
returns-clause-rest c rows waiting empty key =
    let r : Row = view_row c.args.row.now in
    let left : AreWaiting c.take_counterpart.new.waiting rows = λ k.
    c.in_ok-_itself.ensures.others (r ∷ rows) waiting k ∙ ap (filter (is_at k.0 k.1)) (without_itself r rows) in
    let none : find (is_same r) rows ≡ None = found_none c.in_ok-twin.twin _ (c.in_ok-twin.ensures.found rows left)
    (sym c.is_some.ensures ∙ empty) in
    c.in_ok-twin.ensures.others rows left key ∙ ap (filter (is_at key.0 key.1)) (all_others (is_same r) rows none)
