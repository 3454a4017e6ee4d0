use Rattle.desk.proofs.Cited.{rules, ◌≡◌, ◌∙◌, ap, sym, subst, suc, take, length, ℕ, List, arith, append_known, Event, reports, State}
use Rattle.desk.proofs.Cited.{after_events, StaysFree, IsLeft, AllLie, outcome_seen}
use Rattle.desk.proofs.whole.run_events.Goals as goal

pub returns-clause-kept : goal.returns-clause-kept
returns-clause-kept g c =
    λ w site m. c.finish-apps.ensures.kept w site (c.serve_all-done.ensures.kept w site m)

pub returns-clause-outside : goal.returns-clause-outside
returns-clause-outside g c = λ place f.
    let stays = subst (λ (es : List Event). StaysFree place (take (suc c.serve_all-done.result) es) c.args.desk.state)
    (sym c.deref.ensures.value)
    (subst (λ (n : ℕ). StaysFree place (take (suc n) c.args.job.now.events.items) c.args.desk.state)
    c.outcome_by.ensures.done f) in
    let done = c.serve_all-done.ensures.outside place stays in
    c.finish-apps.ensures.outside place done.0 ∙ done.1

pub returns-clause-heard : goal.returns-clause-heard
returns-clause-heard g c =
    c.serve_all-done.ensures.heard
    ∙ ap (λ (n : ℕ). append_known (g.W.Watch.heard c.args.watch.now) (reports n (length c.deref.result.now)))
    (sym c.outcome_by.ensures.done)
    ∙ ap (λ (es : List Event). append_known (g.W.Watch.heard c.args.watch.now)
    (reports c.outcome_by.result.done (length es))) c.deref.ensures.value

pub returns-clause-outcome : goal.returns-clause-outcome
returns-clause-outcome g c =
    let k : length c.args.job.now.events.items ≡ c.args.job.now.events.len = search rules in
    let count : c.len.result ≡ length c.deref.result.now =
    c.len.ensures ∙ sym k ∙ sym (ap (λ (es : List Event). length es) c.deref.ensures.value) in
    let few = c.serve_all-done.ensures.few in
    subst (λ (es : List Event). IsLeft (outcome_seen c.outcome_by.result) es c.args.desk.state) c.deref.ensures.value
    (c.outcome_by.ensures.outcome c.deref.result.now c.args.desk.state c.serve_all-done.new.desk.state
    c.finish-apps.ensures.log c.finish-apps.ensures.apps count (omega (arith, few, count))
    (λ each. c.serve_all-done.ensures.all (each ∙ count))
    (λ less. c.serve_all-done.ensures.within (omega (arith, less, count))))

pub returns-clause-lies : goal.returns-clause-lies
returns-clause-lies g c = λ whole.
    let k : length c.args.job.now.events.items ≡ c.args.job.now.events.len = search rules in
    let count : c.len.result ≡ length c.deref.result.now =
    c.len.ensures ∙ sym k ∙ sym (ap (λ (es : List Event). length es) c.deref.ensures.value) in
    let least = c.outcome_by.ensures.whole whole in
    let few = c.serve_all-done.ensures.few in
    let done = c.serve_all-done.ensures.all (omega (arith, least, few, count)) in
    subst (λ (s : State). AllLie (g.Z.ZoneMaker.left c.finish-apps.result.zones) s.places)
    (done ∙ ap (λ (es : List Event). after_events es c.args.desk.state) c.deref.ensures.value)
    c.finish-apps.ensures.lies
