use Rattle.desk.proofs.Cited.{rules, ◌≡◌, ◌+◌, ◌-◌, ◌<◌, ◌∙◌, ap, subst, inl, sym, suc, true, on_err, State, rounds, any_runs, Halt}
use Rattle.desk.proofs.Cited.{WithinRounds, halted}
use Rattle.desk.proofs.Free.{next-out}
use Rattle.desk.proofs.Halting.{rounds_next}
use Rattle.desk.proofs.Rounds.{round_next}
use Rattle.desk.proofs.desk.Desk.rest.Goals as goal

pub loop-preserved : goal.loop-preserved
loop-preserved g c =
    let n = c.longest-most.result in
    let k = c.loop.counter in
    let less : k < n = search rules in
    let runs : any_runs c.loop.self.state ≡ true = search rules in
    record {
      rest = ap (λ (s : State). rounds (suc (n - (k + 1))) s) c.in_ok-round.ensures.ok
          ∙ sym (round_next n k c.loop.self.state less runs) ∙ c.loop.invariant.rest;
      within = λ x rest. c.loop.invariant.within x (rounds_next (λ m. halted m ≡ x) n k c.loop.self.state less
          (subst (WithinRounds (λ m. halted m ≡ x) (suc (n - (k + 1)))) c.in_ok-round.ensures.ok rest));
      memory = c.round.ensures.memory ∙ c.loop.invariant.memory;
      kept = λ w site m. c.round.ensures.kept w site (c.loop.invariant.kept w site m);
      outside = next-out g.Z.ZoneMaker.byte c.args.self.now.zones c.loop.self.zones c.round.new.self.zones
          c.args.self.now.state c.loop.self.state c.round.new.self.state c.round.ensures.outside
          c.loop.invariant.outside;
    }

pub returns-in_err-round-clause-within : goal.returns-in_err-round-clause-within
returns-in_err-round-clause-within g c =
    let x : Halt = halted c.round.new.self.state in
    on_err c.from_residual.result _ (c.loop.invariant.within x (inl c.in_err-round.ensures.within))

pub returns-in_err-round-2-clause-within : goal.returns-in_err-round-2-clause-within
returns-in_err-round-2-clause-within g c =
    let x : Halt = halted c.round-then-any_runs.new.self.state in
    on_err c.from_residual-in_err-round-2.result _ (c.loop.invariant.within x (inl c.in_err-round-2.ensures.within))

pub returns-in_err-round-clause-outside : goal.returns-in_err-round-clause-outside
returns-in_err-round-clause-outside g c =
    next-out g.Z.ZoneMaker.byte c.args.self.now.zones c.loop.self.zones c.round.new.self.zones
    c.args.self.now.state c.loop.self.state c.round.new.self.state c.round.ensures.outside c.loop.invariant.outside

pub returns-in_err-round-2-clause-outside : goal.returns-in_err-round-2-clause-outside
returns-in_err-round-2-clause-outside g c =
    next-out g.Z.ZoneMaker.byte c.args.self.now.zones c.loop.self.zones c.round-then-any_runs.new.self.zones
    c.args.self.now.state c.loop.self.state c.round-then-any_runs.new.self.state c.round-then-any_runs.ensures.outside
    c.loop.invariant.outside

pub returns-in_ok-round-2-clause-outside : goal.returns-in_ok-round-2-clause-outside
returns-in_ok-round-2-clause-outside g c =
    next-out g.Z.ZoneMaker.byte c.args.self.now.zones c.loop.self.zones c.round-then-any_runs.new.self.zones
    c.args.self.now.state c.loop.self.state c.round-then-any_runs.new.self.state c.round-then-any_runs.ensures.outside
    c.loop.invariant.outside
