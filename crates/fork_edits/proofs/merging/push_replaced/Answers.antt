use Rattle.fork_edits.proofs.Cited.{◌≡◌, ◌∙◌, ◌++◌, ◌∷◌, [], List, Some, ap, sym, map, option_map, unwrap_or, find, map-append, Row}
use Rattle.fork_edits.proofs.Cited.{is_same, view_row}
use Rattle.fork_edits.proofs.merging.push_replaced.Goals as goal

pub returns-in_ok-push-in-Some-clause-pushed : goal.returns-in_ok-push-in-Some-clause-pushed
returns-in_ok-push-in-Some-clause-pushed c rows waiting =
    let before : List Row = map view_row c.args.out.now.items in
    let found : Some (view_row c.in-Some.new) ≡ find (is_same (view_row c.args.old.now)) rows =
    ap (option_map view_row) (sym c.in-Some.is) ∙ c.in_ok-new.ensures.found rows waiting in
    ap (map view_row) c.in_ok-push-in-Some.ensures.items ∙ map-append view_row _ _
    ∙ ap (λ o. before ++ unwrap_or o (view_row c.args.old.now) ∷ []) found
