use Rattle.applications.proofs.Cited.{◌≡◌, ◌∙◌, ◌+◌, ◌-◌, ◌++◌, ap, subst, arith, suc, ℕ, on_err, sizes, Running, step, step_in, round}
use Rattle.applications.proofs.Cited.{lines_told, Came, CameRound, exit_of, Next, glances_in, goes_on}
use Rattle.applications.proofs.Rounds.{step_ends, step_goes_on}
use Rattle.applications.proofs.Seeing.{Sees, again-seen, all-seen, ended-seen}
use Rattle.applications.proofs.application.Application.take_rounds.Given.{Over}
use Rattle.applications.proofs.application.Application.take_rounds.Goals.{In-Ended}
use Rattle.applications.proofs.Filing.{extends_on, some_ends}
use Rattle.applications.proofs.Elsewhere.{rounds-left}
use Rattle.applications.proofs.application.Application.take_rounds.Goals as goal

-- where the call has ended, so has its step
done : (g : Over) (c : In-Ended g)
    → (c.in-Ended.exit ≡ exit_of (step c.args.script.now.blocks c.args.line.now c.args.self.now))
    × Came (step c.args.script.now.blocks c.args.line.now c.args.self.now) c.args.text.now.items c.round.new.text.items c.round.new.self
done g c =
    let blocks = c.args.script.now.blocks in
    let l = c.args.line.now in
    let r : Running = c.args.self.now in
    let inv = c.loop-round.invariant in
    let most : ℕ = c.from-most.result + 1 in
    let n : ℕ = most - c.loop-round._round in
    let k : ℕ = most - (c.loop-round._round + 1) in
    let more : n ≡ suc k = omega (arith, c.loop-round-test.true) in
    let same : most ≡ sizes r.memory.heap.zone + 1 =
    ap (λ (x : ℕ). x + 1) (c.from-most.ensures ∙ c.len.ensures ∙ ap (λ (x : Running). sizes x.memory.heap.zone) c.self.view_is) in
    let came = subst (λ (x : Next). CameRound (round blocks l c.loop-round.self) x c.loop-round.text.items c.round.new.text.items
    c.round.new.self) c.in-Ended.is c.in_ok-round.ensures.came in
    let ends = step_ends blocks l n k c.loop-round.self c.round.new.self c.in-Ended.exit c.loop-round.text.items c.round.new.text.items
    c.args.text.now.items (step_in most blocks l r) more came inv.0 inv.1 inv.2 in (
      ends.0 ∙ ap (λ (x : ℕ). exit_of (step_in x blocks l r)) same,
      (
        ends.1.0 ∙ ap (λ (x : ℕ). c.args.text.now.items ++ lines_told (step_in x blocks l r).lines) same,
        ends.1.1 ∙ ap (λ (x : ℕ). (step_in x blocks l r).after) same,
      ),
    )

pub returns-in-Ended-clause-ends : goal.returns-in-Ended-clause-ends
returns-in-Ended-clause-ends g c = (done g (goal.at.returns-in-Ended-clause-ends g c).In-Ended).0

pub returns-in-Ended-clause-came : goal.returns-in-Ended-clause-came
returns-in-Ended-clause-came g c = (done g (goal.at.returns-in-Ended-clause-came g c).In-Ended).1

pub loop-round-preserved : goal.loop-round-preserved
loop-round-preserved g c =
    let most : ℕ = c.from-most.result + 1 in
    let n : ℕ = most - c.loop-round._round in
    let k : ℕ = most - (c.loop-round._round + 1) in
    let more : n ≡ suc k = omega (arith, c.loop-round-test.true) in
    let came = subst (λ (x : Next). CameRound (round c.args.script.now.blocks c.args.line.now c.loop-round.self) x c.loop-round.text.items
    c.round.new.text.items c.round.new.self) c.in-Again.is c.in_ok-round.ensures.came in
    let both = step_goes_on c.args.script.now.blocks c.args.line.now n k c.loop-round.self c.round.new.self c.loop-round.text.items
    c.round.new.text.items _ (step_in most c.args.script.now.blocks c.args.line.now c.args.self.now) more came c.loop-round.invariant.0
    c.loop-round.invariant.1 c.loop-round.invariant.2 in (
      both.0,
      both.1,
      both.2,
      extends_on c.args.text.now.items c.loop-round.text.items c.round.new.text.items c.loop-round.invariant.3
          c.round.ensures.front,
      c.in_ok-round.ensures.stays (ap goes_on c.in-Again.is) ∙ c.loop-round.invariant.4,
      λ before seen. again-seen (g.O.Onlooker.saw c.loop-round.onlooker) (g.O.Onlooker.saw c.round.new.onlooker)
          c.args.script.now.blocks c.args.line.now n k c.loop-round.self c.round.new.self c.loop-round.text.items
          c.round.new.text.items _ more came c.in_ok-round.ensures.saw (c.loop-round.invariant.5 before seen),
    )

pub returns-in_err-round-clause-lies : goal.returns-in_err-round-clause-lies
returns-in_err-round-clause-lies g c =
    let most : ℕ = c.from-most.result + 1 in
    c.in_err-round.ensures.lies
    ∙ rounds-left (most - c.loop-round._round) most c.args.script.now.blocks c.args.line.now c.loop-round.self
    c.args.self.now c.loop-round.invariant.1

pub returns-in-Ended-clause-lies : goal.returns-in-Ended-clause-lies
returns-in-Ended-clause-lies g c =
    let most : ℕ = c.from-most.result + 1 in
    c.in_ok-round.ensures.lies
    ∙ rounds-left (most - c.loop-round._round) most c.args.script.now.blocks c.args.line.now c.loop-round.self
    c.args.self.now c.loop-round.invariant.1

pub returns-clause-lies : goal.returns-clause-lies
returns-clause-lies g c =
    let most : ℕ = c.from-most.result + 1 in
    rounds-left (most - c.loop-round._round) most c.args.script.now.blocks c.args.line.now c.loop-round.self
    c.args.self.now c.loop-round.invariant.1

pub returns-in_err-round-clause-front : goal.returns-in_err-round-clause-front
returns-in_err-round-clause-front g c =
    extends_on c.args.text.now.items c.loop-round.text.items c.round.new.text.items c.loop-round.invariant.3
    c.round.ensures.front

pub returns-in_err-round-clause-files : goal.returns-in_err-round-clause-files
returns-in_err-round-clause-files g c =
    on_err c.from_residual.result _ (c.in_err-round.ensures.files ∙ c.loop-round.invariant.4)

pub returns-in-Ended-clause-front : goal.returns-in-Ended-clause-front
returns-in-Ended-clause-front g c =
    extends_on c.args.text.now.items c.loop-round.text.items c.round.new.text.items c.loop-round.invariant.3
    c.round.ensures.front

pub returns-in-Ended-clause-over : goal.returns-in-Ended-clause-over
returns-in-Ended-clause-over g c = λ over.
    c.in_ok-round.ensures.stays (ap goes_on c.in-Ended.is ∙ some_ends c.in-Ended.exit over) ∙ c.loop-round.invariant.4

pub returns-in-Ended-clause-saw : goal.returns-in-Ended-clause-saw
returns-in-Ended-clause-saw g c before seen =
    let blocks = c.args.script.now.blocks in
    let l = c.args.line.now in
    let r : Running = c.args.self.now in
    let most : ℕ = c.from-most.result + 1 in
    let n : ℕ = most - c.loop-round._round in
    let k : ℕ = most - (c.loop-round._round + 1) in
    let more : n ≡ suc k = omega (arith, c.loop-round-test.true) in
    let same : most ≡ sizes r.memory.heap.zone + 1 =
    ap (λ (x : ℕ). x + 1) (c.from-most.ensures ∙ c.len.ensures ∙ ap (λ (x : Running). sizes x.memory.heap.zone) c.self.view_is) in
    let came = subst (λ (x : Next). CameRound (round blocks l c.loop-round.self) x c.loop-round.text.items c.round.new.text.items
    c.round.new.self) c.in-Ended.is c.in_ok-round.ensures.came in
    subst (λ (x : ℕ). g.O.Onlooker.saw c.round.new.onlooker (before ++ glances_in x blocks l r)) same
    (ended-seen (g.O.Onlooker.saw c.loop-round.onlooker) (g.O.Onlooker.saw c.round.new.onlooker) blocks l n k c.loop-round.self
    c.round.new.self c.in-Ended.exit c.loop-round.text.items c.round.new.text.items _ more came c.in_ok-round.ensures.saw
    (c.loop-round.invariant.5 before seen))

pub returns-clause-saw : goal.returns-clause-saw
returns-clause-saw g c before seen =
    let blocks = c.args.script.now.blocks in
    let l = c.args.line.now in
    let r : Running = c.args.self.now in
    let most : ℕ = c.from-most.result + 1 in
    let none : most - c.loop-round._round ≡ 0 = omega (arith, c.loop-round-test.false) in
    let same : most ≡ sizes r.memory.heap.zone + 1 =
    ap (λ (x : ℕ). x + 1) (c.from-most.ensures ∙ c.len.ensures ∙ ap (λ (x : Running). sizes x.memory.heap.zone) c.self.view_is) in
    subst (λ (x : ℕ). g.O.Onlooker.saw c.loop-round.onlooker (before ++ glances_in x blocks l r)) same
    (all-seen (g.O.Onlooker.saw c.loop-round.onlooker) _ (subst (λ (x : ℕ). Sees (g.O.Onlooker.saw c.loop-round.onlooker)
    (glances_in x blocks l c.loop-round.self) (before ++ glances_in most blocks l r)) none (c.loop-round.invariant.5 before seen)))
