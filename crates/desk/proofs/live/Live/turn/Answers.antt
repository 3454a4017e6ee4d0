use Rattle.desk.proofs.Cited.{◌≡◌, drop, false, on_err_weaker, on_err, live_seen, Launched, leaves}
use Rattle.desk.proofs.Halting.{turn-begun}
use Rattle.desk.proofs.live.Live.turn.Goals as goal

pub returns-in_err-end-clause-within : goal.returns-in_err-end-clause-within
returns-in_err-end-clause-within g c =
    let x : Launched = leaves false (live_seen c.step.new.self) in
    on_err c.from_residual.result _
    (c.loop-line.invariant.within x
    (turn-begun (λ m. leaves false m ≡ x) (drop c.loop-line.line-index c.rest_of-line-items.result.now) c.args.script.now
    (live_seen c.loop-line.self) c.in_err-end.ensures.stays))

pub returns-clause-within : goal.returns-clause-within
returns-clause-within g c =
    let x : Launched = leaves false (live_seen c.step-2.new.self) in
    on_err_weaker c.step-2.result
    (λ stays. c.loop-line.invariant.within x
    (turn-begun (λ m. leaves false m ≡ x) (drop c.loop-line.line-index c.rest_of-line-items.result.now) c.args.script.now
    (live_seen c.loop-line.self) stays))
    c.step-2.ensures.stays
