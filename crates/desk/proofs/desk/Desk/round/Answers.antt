use Rattle.desk.proofs.Cited.{rules, ◌≡◌, subst, ◌+◌, ◌-◌, ◌<◌, ◌∙◌, ap, sym, on_err, State, each_turned, Halt, WithinTurns, halted}
use Rattle.desk.proofs.Free.{next-out}
use Rattle.desk.proofs.Halting.{turns_next, turns_halt}
use Rattle.desk.proofs.Rounds.{turned_next}
use Rattle.desk.proofs.desk.Desk.round.Goals as goal

pub loop-i-preserved : goal.loop-i-preserved
loop-i-preserved g c =
    let n = c.count-count.result in
    let i = c.loop-i.i in
    let less : i < n = search rules in
    record {
      rest = ap (λ (s : State). each_turned (n - (i + 1)) (i + 1) s) c.in_ok-act.ensures.ok
          ∙ sym (turned_next n i c.loop-i.self.state less) ∙ c.loop-i.invariant.rest;
      within = λ x rest. c.loop-i.invariant.within x (turns_next (λ m. halted m ≡ x) n i c.loop-i.self.state less
          (subst (WithinTurns (λ m. halted m ≡ x) (n - (i + 1)) (i + 1)) c.in_ok-act.ensures.ok rest));
      memory = c.act.ensures.memory ∙ c.loop-i.invariant.memory;
      kept = λ w site m. c.act.ensures.kept w site (c.loop-i.invariant.kept w site m);
      outside = next-out g.Z.ZoneMaker.byte c.args.self.now.zones c.loop-i.self.zones c.act.new.self.zones
          c.args.self.now.state c.loop-i.self.state c.act.new.self.state c.act.ensures.outside
          c.loop-i.invariant.outside;
    }

pub returns-in_err-act-clause-within : goal.returns-in_err-act-clause-within
returns-in_err-act-clause-within g c =
    let n = c.count-count.result in
    let i = c.loop-i.i in
    let less : i < n = search rules in
    let x : Halt = halted c.act.new.self.state in
    on_err c.from_residual.result _
    (c.loop-i.invariant.within x
    (turns_halt (λ m. halted m ≡ x) n i c.loop-i.self.state less c.in_err-act.ensures.within))

pub returns-in_err-act-clause-outside : goal.returns-in_err-act-clause-outside
returns-in_err-act-clause-outside g c =
    next-out g.Z.ZoneMaker.byte c.args.self.now.zones c.loop-i.self.zones c.act.new.self.zones
    c.args.self.now.state c.loop-i.self.state c.act.new.self.state c.act.ensures.outside c.loop-i.invariant.outside
