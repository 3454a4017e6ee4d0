use Rattle.desk.proofs.Cited.{subst, sym, view, ready, start_of, IsReady, phase_seen}
use Rattle.desk.specs.declared.seat.Phase.{Phase}
use Rattle.desk.proofs.preparing.prepared.Goals as goal

pub returns-in-Waiting-clause-answer : goal.returns-in-Waiting-clause-answer
returns-in-Waiting-clause-answer g c =
    subst (λ (p : Phase g.row.S.Denot). IsReady (ready (phase_seen
    (start_of (view c.args.seat.now.system.content.now) c.args.seat.now.app.now) p)) c.launched_with.result)
    (sym c.in-Waiting.is)
    c.launched_with.ensures.answer
