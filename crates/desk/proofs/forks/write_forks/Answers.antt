use Rattle.desk.proofs.Cited.{rules, ◌≢◌, ◌∙◌, ◌<◌, [], length, subst, sym, on_err, AppOutcome, forks_of, told_seen}
use Rattle.desk.proofs.ForkLines.{apps_next, still-lines}
use Rattle.desk.proofs.forks.write_forks.Goals as goal

pub returns-in_err-write_app-clause-forks : goal.returns-in_err-write_app-clause-forks
returns-in_err-write_app-clause-forks c =
    let apps = c.args.apps.now in
    let i = c.loop-app.app-index in
    let less : i < length apps = search rules in
    on_err c.from_residual.result _
    (still-lines c.loop-app.text.items c.args.text.now.items _ _ _
    (sym (apps_next c.loop-app.text.items apps i c.app-item.result less) ∙ c.loop-app.invariant.0)
    c.loop-app.invariant.1 (subst (λ (x : AppOutcome). forks_of (told_seen x) ≢ []) c.app-item.is c.in_err-write_app.ensures.forks))
