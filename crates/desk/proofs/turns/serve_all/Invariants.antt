use Rattle.desk.proofs.Cited.{◌≡◌, ℕ, ◌+◌, drop, length, take, append_known, Window, Site, reports, StaysFree, after_events, Halt}
use Rattle.desk.proofs.Cited.{HaltsAfter, halted}
use Rattle.desk.proofs.turns.serve_all.Given as goal

-- the events that are left make up the whole
abbrev pub invariant-loop-index : goal.invariant-loop-index
invariant-loop-index g l = record {
  rest : after_events (drop l.index l.events) l.desk.state ≡ after_events l.events l.fn.desk.state;
  within : (x : Halt) (k : ℕ) → HaltsAfter (λ m. halted m ≡ x) k (drop l.index l.events) l.desk.state
      → HaltsAfter (λ m. halted m ≡ x) (l.index + k) l.events l.fn.desk.state;
  memory : l.desk.state.memory ≡ l.fn.desk.state.memory;
  kept : (w : Window) (site : Site) → g.Z.ZoneMaker.made l.fn.desk.zones w site → g.Z.ZoneMaker.made l.desk.zones w site;
  outside : (place k : ℕ) → StaysFree place (take (l.index + k) l.events) l.fn.desk.state
      → StaysFree place (take k (drop l.index l.events)) l.desk.state
      × (g.Z.ZoneMaker.byte l.desk.zones place ≡ g.Z.ZoneMaker.byte l.fn.desk.zones place);
  heard : g.W.Watch.heard l.watch ≡ append_known (g.W.Watch.heard l.fn.watch) (reports l.index (length l.events));
}
