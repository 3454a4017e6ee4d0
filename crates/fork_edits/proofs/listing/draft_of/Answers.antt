use Rattle.fork_edits.proofs.Cited.{map, sym, subst, lines_read, no_draft, StopsList, view_draft}
use Rattle.fork_edits.proofs.Lining.{next_stops}
use Rattle.fork_edits.proofs.listing.draft_of.Goals as goal

pub returns-in-Err-clause-fault : goal.returns-in-Err-clause-fault
returns-in-Err-clause-fault c =
    subst (λ fault. StopsList fault (lines_read 1 no_draft (map (λ line. line.now) c.args.lines.now))) (sym c.at.ensures)
    (next_stops c.in-Err.stop c.loop-i.i c.args.lines.now _ c.bare_line.result.now (view_draft c.loop-i.draft) _
    c.loop-i-test.true c.bare_line.ensures c.in-Err.ensures.fault c.loop-i.invariant)
