use Rattle.desk.proofs.Cited.{sym, subst, Event, State, after_event, IsFree}
use Rattle.desk.proofs.desk.Desk.serve.Goals as goal

pub returns-in-Ok-clause-outside : goal.returns-in-Ok-clause-outside
returns-in-Ok-clause-outside g c = λ place free after.
    let out = subst (λ (e : Event). IsFree place (after_event e c.args.self.now.state)) c.in-Launch.is after in
    (subst (λ (s : State). IsFree place s) (sym c.in-Ok.ensures.ok) out, c.try_launch.ensures.outside place out)

pub returns-in-Err-clause-outside : goal.returns-in-Err-clause-outside
returns-in-Err-clause-outside g c = λ place free after. (
  subst (λ (s : State). IsFree place s) (sym c.in-Err.ensures.host) free,
  c.try_launch.ensures.outside place
      (subst (λ (e : Event). IsFree place (after_event e c.args.self.now.state)) c.in-Launch.is after),
)

pub returns-in-Act-clause-outside : goal.returns-in-Act-clause-outside
returns-in-Act-clause-outside g c = λ place free after. c.act.ensures.outside place free

pub returns-in-Rest-clause-outside : goal.returns-in-Rest-clause-outside
returns-in-Rest-clause-outside g c = λ place free after. c.rest.ensures.outside place free
