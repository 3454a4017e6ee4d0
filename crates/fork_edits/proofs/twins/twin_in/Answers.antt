use Rattle.fork_edits.proofs.Cited.{◌∷◌, ◌+◌, ◌∙◌, List, sym, ap, map, drop, filter, Row, is_at, view_row, AreWaiting}
use Rattle.fork_edits.proofs.Doubles.{rest_rows, twin_further, twin_found}
use Rattle.fork_edits.proofs.twins.twin_in.Goals.{In_ok-has_twin}
use Rattle.fork_edits.proofs.twins.twin_in.Goals as goal

-- the resources after this one, before which it waits
abbrev rest : In_ok-has_twin → List Row
rest c = map view_row (drop (c.loop-row.row-index + 1) c.args.rows.now)

waits : (c : In_ok-has_twin) → AreWaiting c.loop-row.waiting (view_row c.row-item.result ∷ rest c)
waits c = λ key. c.loop-row.invariant.waiting key ∙ ap (filter (is_at key.0 key.1))
    (rest_rows c.args.rows.now c.loop-row.row-index c.row-item.result c.loop-row-test.true c.row-item.is)

pub returns-then-branch : goal.returns-then-branch
returns-then-branch c =
    let at = (goal.at.returns-then-branch c).In_ok-has_twin in
    twin_found c.args.rows.now c.loop-row.row-index c.row-item.result _ c.loop-row-test.true c.row-item.is
    (sym (c.in_ok-has_twin.ensures.twin (rest at) (waits at)) ∙ c.if-branch.true) c.loop-row.invariant.first

pub loop-row-preserved : goal.loop-row-preserved
loop-row-preserved c =
    let at = (goal.at.loop-row-preserved c).In_ok-has_twin in
    record {
      waiting = c.in_ok-has_twin.ensures.rest (rest at) (waits at) c.if-branch.false;
      first = twin_further c.args.rows.now c.loop-row.row-index c.row-item.result _ c.loop-row-test.true c.row-item.is
          (sym (c.in_ok-has_twin.ensures.twin (rest at) (waits at)) ∙ c.if-branch.false) c.loop-row.invariant.first;
    }
