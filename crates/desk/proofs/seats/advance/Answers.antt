use Rattle.desk.proofs.Cited.{◌≡◌, Some, false, ap, sym, subst, live_seen, Launched, Running, leaves, told_of, WithinPhase, phase_seen}
use Rattle.desk.specs.declared.seat.Phase as declared
use Rattle.desk.proofs.Halting.{act_then}
use Rattle.desk.proofs.seats.advance.Goals as goal

pub returns-in-Err-clause-within : goal.returns-in-Err-clause-within
returns-in-Err-clause-within g c = λ start.
    subst (λ (p : declared.Phase g.row.S.Denot). WithinPhase (λ q. told_of q ≡ told_of (Running (live_seen c.act.new.self)))
    c.args.what.1 c.args.what.0.now.script (phase_seen start p)) (sym c.in-Running.is)
    (act_then (λ m. leaves false m ≡ leaves false (live_seen c.act.new.self))
    (λ m. told_of (Running m) ≡ told_of (Running (live_seen c.act.new.self))) c.args.what.1 c.args.what.0.now.script
    (live_seen c.in-Running.live) (λ m same. ap (λ (l : Launched). Some l) same) c.in-Err.ensures.within)
