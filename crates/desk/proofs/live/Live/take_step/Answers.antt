use Rattle.desk.proofs.Cited.{◌≡◌, ◌∙◌, ◌+◌, false, List, length, None, Some, slice_get, ap, sym, Line, nowhere, quits, moved, Live}
use Rattle.desk.proofs.Cited.{ends, live_seen, step_of, refl, subst, slice_get_past, slice_get_read, IsItemAt}
use Rattle.desk.proofs.Coming.{call_goes_on, call_ends}
use Rattle.desk.proofs.live.Live.take_step.Goals as goal

pub returns-in_default-clause-came : goal.returns-in_default-clause-came
returns-in_default-clause-came g c =
    let s = c.args.self.now in
    let none : slice_get c.args.script.now.steps s.steps ≡ None =
    ap (λ (lines : List Line). slice_get lines s.steps) (sym c.steps.ensures.steps)
    ∙ slice_get_past c.steps.result.now s.steps (subst (λ o. IsItemAt c.steps.result.now s.steps o) c.in_default.is c.get.ensures.lookup).3 in
    ap (λ o. step_of o c.args.script.now (live_seen s)) none
    ∙ ap (λ (lines : List Line). ends false (quits (moved nowhere s.application)) (let live : Live = record {
      window = s.partition.window;
      steps = length lines + 1;
      transcript = s.text.items;
      state = moved nowhere s.application;
    } in live)) (sym c.steps-in_default.ensures.steps)
    ∙ c.in_ok-end.ensures.came false

pub returns-in_ok-end-in-Some-2-clause-came : goal.returns-in_ok-end-in-Some-2-clause-came
returns-in_ok-end-in-Some-2-clause-came g c =
    let s = c.args.self.now in
    let some : slice_get c.args.script.now.steps s.steps ≡ Some c.in-Some.line.now =
    ap (λ (lines : List Line). slice_get lines s.steps) (sym c.steps.ensures.steps)
    ∙ slice_get_read c.steps.result.now (length c.steps.result.now) s.steps c.in-Some.line.now refl c.in-Some.ensures.lookup.3.0
    c.in-Some.ensures.lookup.1 in
    ap (λ o. step_of o c.args.script.now (live_seen s)) some
    ∙ call_ends s.partition.window s.steps s.text.items c.step.new.text.items s.application c.step.new.self
    c.args.script.now.blocks c.in-Some.line.now c.in_ok-exit.field-0 c.in_ok-exit.ensures.ends c.in_ok-exit.ensures.came
    c.in-Some-2.exit c.in-Some-2.is
    ∙ c.in_ok-end-in-Some-2.ensures.came false

pub returns-in-None-clause-came : goal.returns-in-None-clause-came
returns-in-None-clause-came g c =
    let s = c.args.self.now in
    let some : slice_get c.args.script.now.steps s.steps ≡ Some c.in-Some.line.now =
    ap (λ (lines : List Line). slice_get lines s.steps) (sym c.steps.ensures.steps)
    ∙ slice_get_read c.steps.result.now (length c.steps.result.now) s.steps c.in-Some.line.now refl c.in-Some.ensures.lookup.3.0
    c.in-Some.ensures.lookup.1 in
    ap (λ o. step_of o c.args.script.now (live_seen s)) some
    ∙ call_goes_on s.partition.window s.steps s.text.items c.step.new.text.items s.application c.step.new.self
    c.args.script.now.blocks c.in-Some.line.now c.in_ok-exit.field-0 c.in_ok-exit.ensures.ends c.in_ok-exit.ensures.came
    c.in-None.is
