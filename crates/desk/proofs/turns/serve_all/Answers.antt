use Rattle.desk.proofs.Cited.{rules, ◌≡◌, ℕ, refl, subst, ◌+◌, ◌<◌, ◌∙◌, ap, sym, drop, take, length, suc, arith, known-nil, State}
use Rattle.desk.proofs.Cited.{after_events, StaysFree, Halt, HaltsAfter, halted}
use Rattle.desk.proofs.Free.{event-out, halt-out, all-out}
use Rattle.desk.proofs.Halting.{events_within, events_halt}
use Rattle.desk.proofs.Rounds.{events_next}
use Rattle.desk.proofs.Told.{told_more}
use Rattle.desk.proofs.turns.serve_all.Goals as goal

pub loop-index-init : goal.loop-index-init
loop-index-init g c = record {
  rest = refl;
  within = λ x k rest. subst (λ (n : ℕ). HaltsAfter (λ m. halted m ≡ x) n c.args.events.now c.args.desk.now.state)
      (let count : k ≡ 0 + k = omega arith in count) rest;
  memory = refl;
  kept = λ w site m. m;
  outside = λ place k f. (
    subst (λ (n : ℕ). StaysFree place (take n c.args.events.now) c.args.desk.now.state)
        (let count : 0 + k ≡ k = omega arith in count) f,
    refl,
  );
  heard = known-nil (g.W.Watch.heard c.args.watch.now);
}

pub loop-index-preserved : goal.loop-index-preserved
loop-index-preserved g c =
    let events = c.args.events.now in
    let i = c.loop-index.index in
    let less : i < length events = search rules in
    record {
      rest = ap (λ (s : State). after_events (drop (i + 1) events) s) c.in-Ok.ensures.ok
          ∙ sym (events_next events i _ c.loop-index.desk.state less) ∙ c.loop-index.invariant.rest;
      within = λ x k rest. subst (λ (n : ℕ). HaltsAfter (λ m. halted m ≡ x) n events c.args.desk.now.state)
          (let count : i + suc k ≡ i + 1 + k = omega arith in count)
          (c.loop-index.invariant.within x (suc k)
          (events_within (λ m. halted m ≡ x) k events i _ c.loop-index.desk.state less
          (subst (HaltsAfter (λ m. halted m ≡ x) k (drop (i + 1) events)) c.in-Ok.ensures.ok rest)));
      memory = c.serve.ensures.memory ∙ c.loop-index.invariant.memory;
      kept = λ w site m. c.serve.ensures.kept w site (c.loop-index.invariant.kept w site m);
      outside = event-out g.Z.ZoneMaker.byte c.args.desk.now.zones c.loop-index.desk.zones c.serve.new.self.zones events i _
          c.args.desk.now.state c.loop-index.desk.state c.serve.new.self.state less c.serve.ensures.outside
          c.loop-index.invariant.outside c.in-Ok.ensures.ok;
      heard = told_more (g.W.Watch.heard c.args.watch.now) (g.W.Watch.heard c.loop-index.watch)
          (g.W.Watch.heard c.tell.new.watch) i (length events) c.loop-index.invariant.heard c.tell.ensures.heard;
    }

-- the host is out of memory within this event
pub returns-in-Err-clause-within : goal.returns-in-Err-clause-within
returns-in-Err-clause-within g c = λ few.
    let events = c.args.events.now in
    let i = c.loop-index.index in
    let less : i < length events = search rules in
    let x : Halt = halted c.serve.new.self.state in
    subst (λ (n : ℕ). HaltsAfter (λ m. halted m ≡ x) n events c.args.desk.now.state)
    (let count : i + 0 ≡ i = omega arith in count)
    (c.loop-index.invariant.within x 0
    (events_halt (λ m. halted m ≡ x) events i _ c.loop-index.desk.state less c.in-Err.ensures.within))

pub returns-in-Err-clause-outside : goal.returns-in-Err-clause-outside
returns-in-Err-clause-outside g c =
    let less : c.loop-index.index < length c.args.events.now = search rules in
    halt-out g.Z.ZoneMaker.byte c.args.desk.now.zones c.loop-index.desk.zones c.serve.new.self.zones c.args.events.now
    c.loop-index.index _ c.args.desk.now.state c.loop-index.desk.state c.serve.new.self.state less
    c.serve.ensures.outside c.loop-index.invariant.outside

-- all events have happened
pub returns-clause-outside : goal.returns-clause-outside
returns-clause-outside g c =
    all-out g.Z.ZoneMaker.byte c.args.desk.now.zones c.loop-index.desk.zones c.loop-index.desk.zones c.args.events.now
    c.loop-index.index c.args.desk.now.state c.loop-index.desk.state (search rules) c.loop-index.invariant.outside
