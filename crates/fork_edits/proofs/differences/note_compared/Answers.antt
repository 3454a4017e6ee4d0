use Rattle.fork_edits.proofs.Cited.{◌∙◌, ◌++◌, List, ap, sym, map, option_map, map-append, Difference, compared, view_row, view_difference}
use Rattle.fork_edits.proofs.differences.note_compared.Goals as goal

pub returns-in_ok-note_changed-in-Some-clause-noted : goal.returns-in_ok-note_changed-in-Some-clause-noted
returns-in_ok-note_changed-in-Some-clause-noted c rows waiting =
    let before : List Difference = map view_difference c.args.found.now.items in
    c.in_ok-note_changed-in-Some.ensures
    ∙ ap (λ o. before ++ compared (view_row c.args.old.now) o) (ap (option_map view_row) (sym c.in-Some.is)
    ∙ c.in_ok-new.ensures.found rows waiting)

pub returns-in_ok-push-in-None-clause-noted : goal.returns-in_ok-push-in-None-clause-noted
returns-in_ok-push-in-None-clause-noted c rows waiting =
    let before : List Difference = map view_difference c.args.found.now.items in
    ap (map view_difference) c.in_ok-push-in-None.ensures.items ∙ map-append view_difference _ _
    ∙ ap (λ o. before ++ compared (view_row c.args.old.now) o) (ap (option_map view_row) (sym c.in-None.is)
    ∙ c.in_ok-new.ensures.found rows waiting)
