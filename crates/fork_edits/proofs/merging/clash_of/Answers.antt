use Rattle.fork_edits.proofs.Cited.{◌≡◌, ◌∙◌, List, None, true, false, ap, map, is_some, find, filter, Row, is_at, is_same, view_row}
use Rattle.fork_edits.proofs.Gathering.{clash_further, clash_here, found_some, found_none}
use Rattle.fork_edits.proofs.Keeping.{all_others}
use Rattle.fork_edits.proofs.merging.clash_of.Goals as goal

pub returns-then-is_some : goal.returns-then-is_some
returns-then-is_some c =
    let news : List Row = map view_row c.args.news.now in
    let some : is_some c.in_ok-found.found ≡ true = cc in
    clash_here c.args.olds.now c.loop-old.old-index c.old-item.result news _ c.loop-old-test.true c.old-item.is
    (found_some c.in_ok-found.found _ (c.in_ok-found.ensures.found news c.loop-old.invariant.waiting) some)
    c.loop-old.invariant.first

pub loop-old-preserved : goal.loop-old-preserved
loop-old-preserved c =
    let news : List Row = map view_row c.args.news.now in
    let empty : is_some c.in_ok-found.found ≡ false = cc in
    let none : find (is_same (view_row c.old-item.result)) news ≡ None =
    found_none c.in_ok-found.found _ (c.in_ok-found.ensures.found news c.loop-old.invariant.waiting) empty in
    record {
      waiting = λ key. c.in_ok-found.ensures.others news c.loop-old.invariant.waiting key
          ∙ ap (filter (is_at key.0 key.1)) (all_others (is_same (view_row c.old-item.result)) news none);
      first = clash_further c.args.olds.now c.loop-old.old-index c.old-item.result news _ c.loop-old-test.true c.old-item.is none
          c.loop-old.invariant.first;
    }
