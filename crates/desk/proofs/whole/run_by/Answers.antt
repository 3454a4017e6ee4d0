use Rattle.desk.proofs.Cited.{◌∙◌, ap, sym, subst, List, suc, take, view, App, opening, State, StaysFree}
use Rattle.desk.proofs.whole.run_by.Goals as goal

pub returns-in-Ok-clause-kept : goal.returns-in-Ok-clause-kept
returns-in-Ok-clause-kept g c =
    λ w site m. c.run_events-outcome.ensures.kept w site
    (subst (λ z. g.Z.ZoneMaker.made z w site) (sym c.in-Ok.ensures.zones) m)

pub returns-in-Ok-clause-outside : goal.returns-in-Ok-clause-outside
returns-in-Ok-clause-outside g c = λ place f.
    c.run_events-outcome.ensures.outside place
    (subst (λ (s : State). StaysFree place (take (suc c.run_events-outcome.result.0.done) c.args.job.now.events.items) s)
    (sym (c.in-Ok.ensures.ok
    ∙ ap (λ (apps : List App). opening c.args.job.now.memory (view c.args.system.now) apps) c.deref.ensures.value)) f)
    ∙ ap (λ z. g.Z.ZoneMaker.byte z place) c.in-Ok.ensures.zones
