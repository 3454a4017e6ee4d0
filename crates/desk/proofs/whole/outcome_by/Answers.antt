use Rattle.desk.proofs.Cited.{◌≡◌, ◌≤◌, map, refl, ap, ◌∙◌, true, arith, told_seen, outcome_seen}
use Rattle.desk.proofs.Halting.{left_whole, left_halted}
use Rattle.desk.proofs.whole.outcome_by.Goals as goal

pub returns-then-done-of-clause-outcome : goal.returns-then-done-of-clause-outcome
returns-then-done-of-clause-outcome c = λ events s m same told_so count few all within.
    left_halted
    (outcome_seen (record { done = c.args.done; desk = c.args.log; apps = c.args.apps; stopped = true }))
    c.args.done events s m same told_so (within (omega arith)) refl refl

pub returns-else-done-of-clause-outcome : goal.returns-else-done-of-clause-outcome
returns-else-done-of-clause-outcome c = λ events s m same told_so count few all within.
    let least : c.args.of ≤ c.args.done = omega arith in
    let each : c.args.done ≡ c.args.of = omega (arith, least, few) in
    left_whole (outcome_seen c.ended_outcome.result) c.args.done events s m c.args.log.items
    (map told_seen c.args.apps.items) same told_so (each ∙ count) (all each) c.ended_outcome.ensures.whole
    c.ended_outcome.ensures.log (ap (map told_seen) c.ended_outcome.ensures.apps) c.ended_outcome.ensures.forks
    c.ended_outcome.ensures.done
