use Rattle.applications.proofs.Cited.{◌∙◌, ◌+◌, ap, refl, drop, length, arith, sym, append-nil, ℕ, append_known, rest-next, on_err, Running}
use Rattle.applications.proofs.Cited.{course_of, reports, steps_taken}
use Rattle.applications.proofs.Rounds.{run_ends, run_goes_on}
use Rattle.applications.proofs.Elsewhere.{run-left}
use Rattle.applications.proofs.Stopping.{heard-nothing, heard-more, from-nothing, count-over, count-more, count-left, first-more}
use Rattle.applications.proofs.application.Application.run.Goals as goal

pub loop-line-init : goal.loop-line-init
loop-line-init g c = (
  refl,
  refl,
  refl,
  record {
    over = refl;
    came = (sym (append-nil c.args.text.now.items), refl);
    count = from-nothing (steps_taken c.args.script.now.blocks c.args.lines.now c.args.self.now);
    done = refl;
    heard = sym (heard-nothing (g.W.Watch.heard c.args.watch.now));
  },
)

pub returns-then-is_some-clause-ends : goal.returns-then-is_some-clause-ends
returns-then-is_some-clause-ends g c =
    let blocks = c.args.script.now.blocks in
    let i = c.loop-line.line-index in
    let l = c.line-item.result in
    run_ends blocks (drop i c.args.lines.now) (drop (i + 1) c.args.lines.now) l c.loop-line.self c.in_ok-exit.exit
    (course_of blocks c.args.lines.now c.args.self.now) (rest-next c.args.lines.now i l (omega arith) c.line-item.is)
    c.in_ok-exit.ensures.ends (sym c.is_some.ensures ∙ c.if-is_some.true) c.loop-line.invariant.2

pub returns-then-is_some-clause-heard : goal.returns-then-is_some-clause-heard
returns-then-is_some-clause-heard g c =
    let i = c.loop-line.line-index in
    let l = c.line-item.result in
    let first = c.loop-line.invariant.3 in
    heard-more (g.W.Watch.heard c.args.watch.now) (g.W.Watch.heard c.loop-line.watch) (g.W.Watch.heard c.tell.new.watch)
    c.loop-line.done i (length c.args.lines.now) first.done first.heard c.tell.ensures.heard
    ∙ ap (λ (n : ℕ). append_known (g.W.Watch.heard c.args.watch.now) (reports n (length c.args.lines.now)))
    (count-over c.args.script.now.blocks (drop i c.args.lines.now) (drop (i + 1) c.args.lines.now) l c.loop-line.self
    c.in_ok-exit.exit i _ (rest-next c.args.lines.now i l (omega arith) c.line-item.is) c.in_ok-exit.ensures.ends
    (sym c.is_some.ensures ∙ c.if-is_some.true) first.count)

pub loop-line-preserved : goal.loop-line-preserved
loop-line-preserved g c =
    let blocks = c.args.script.now.blocks in
    let i = c.loop-line.line-index in
    let l = c.line-item.result in
    let first = c.loop-line.invariant.3 in
    let next = rest-next c.args.lines.now i l (omega arith) c.line-item.is in
    let none = sym c.is_some.ensures ∙ c.if-is_some.false in
    let left = run_goes_on blocks (drop i c.args.lines.now) (drop (i + 1) c.args.lines.now) l c.loop-line.self
    c.step.new.self c.in_ok-exit.exit c.loop-line.text.items c.step.new.text.items _
    (course_of blocks c.args.lines.now c.args.self.now) next c.in_ok-exit.ensures.ends none c.in_ok-exit.ensures.came
    c.loop-line.invariant.0 c.loop-line.invariant.1 c.loop-line.invariant.2 in
    let more = first-more blocks c.args.lines.now i l c.args.self.now c.loop-line.self c.step.new.self c.in_ok-exit.exit
    c.args.text.now.items c.loop-line.text.items c.step.new.text.items (omega arith) c.line-item.is first.over first.came
    c.in_ok-exit.ensures.ends none c.in_ok-exit.ensures.came in (
      left.0,
      left.1,
      left.2,
      record {
        over = more.0;
        came = more.1;
        count = count-more blocks (drop i c.args.lines.now) (drop (i + 1) c.args.lines.now) l c.loop-line.self
            c.step.new.self c.in_ok-exit.exit i _ next c.in_ok-exit.ensures.ends none c.in_ok-exit.ensures.came.1
            first.count;
        done = ap (λ (n : ℕ). n + 1) first.done;
        heard = heard-more (g.W.Watch.heard c.args.watch.now) (g.W.Watch.heard c.loop-line.watch)
            (g.W.Watch.heard c.tell.new.watch) c.loop-line.done i (length c.args.lines.now) first.done first.heard
            c.tell.ensures.heard;
      },
    )

-- where the host is out of memory in a step, those before it were completed
pub returns-in_err-exit-clause-stopped : goal.returns-in_err-exit-clause-stopped
returns-in_err-exit-clause-stopped g c =
    let i = c.loop-line.line-index in
    let l = c.line-item.result in
    let first = c.loop-line.invariant.3 in
    on_err c.from_residual.result _ (
      i,
      record {
        fewer = count-left c.args.script.now.blocks (drop i c.args.lines.now) (drop (i + 1) c.args.lines.now) l
            c.loop-line.self i _ (rest-next c.args.lines.now i l (omega arith) c.line-item.is) first.count;
        text = c.in_err-exit.ensures.text ∙ first.came.0;
        files = c.in_err-exit.ensures.files ∙ ap (λ (x : Running). x.resources.files) first.came.1;
      },
      first.heard,
    )

pub returns-in_err-exit-clause-lies : goal.returns-in_err-exit-clause-lies
returns-in_err-exit-clause-lies g c =
    c.in_err-exit.ensures.lies
    ∙ run-left c.args.script.now.blocks (drop c.loop-line.line-index c.args.lines.now) c.args.lines.now
    c.loop-line.self c.args.self.now c.loop-line.invariant.1

pub returns-then-is_some-clause-lies : goal.returns-then-is_some-clause-lies
returns-then-is_some-clause-lies g c =
    c.in_ok-exit.ensures.lies
    ∙ run-left c.args.script.now.blocks (drop c.loop-line.line-index c.args.lines.now) c.args.lines.now
    c.loop-line.self c.args.self.now c.loop-line.invariant.1

pub returns-clause-lies : goal.returns-clause-lies
returns-clause-lies g c =
    run-left c.args.script.now.blocks (drop c.loop-line.line-index c.args.lines.now) c.args.lines.now
    c.loop-line.self c.args.self.now c.loop-line.invariant.1
