use Rattle.fork_edits.proofs.Cited.{◌∙◌, ◌++◌, List, ap, sym, append_assoc, map, Difference, Added, paired, unmatched, Row, view_row}
use Rattle.fork_edits.proofs.Cited.{view_difference}
use Rattle.fork_edits.proofs.Pairing.{matched_twice}
use Rattle.fork_edits.proofs.differences.note_matched.Goals as goal

pub returns : goal.returns
returns c =
    let olds : List Row = map view_row c.args.olds.now in
    let news : List Row = map view_row c.args.news.now in
    let before : List Difference = map view_difference c.args.found.now.items in
    c.in_ok-note_added.ensures ∙ ap (λ l. l ++ map Added (unmatched news olds)) c.in_ok-note_paired.ensures
    ∙ append_assoc before (paired olds news) (map Added (unmatched news olds))
    ∙ ap (λ l. before ++ l) (sym (matched_twice olds news))
