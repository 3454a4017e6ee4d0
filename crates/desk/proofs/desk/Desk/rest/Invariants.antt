use Rattle.desk.proofs.Cited.{◌≡◌, ℕ, ◌-◌, suc, Window, Site, IsFree, Halt, WithinRounds, halted, longest, rounds, rested}
use Rattle.desk.proofs.desk.Desk.rest.Given as goal

-- the rounds that are left make up the rest
abbrev pub invariant-loop : goal.invariant-loop
invariant-loop g l = record {
  rest : rounds (suc (l.most - l.counter)) l.self.state ≡ rested l.fn.self.state;
  within : (x : Halt) → WithinRounds (λ m. halted m ≡ x) (suc (l.most - l.counter)) l.self.state
      → WithinRounds (λ m. halted m ≡ x) (suc (longest l.fn.self.state.places)) l.fn.self.state;
  memory : l.self.state.memory ≡ l.fn.self.state.memory;
  kept : (w : Window) (site : Site) → g.Z.ZoneMaker.made l.fn.self.zones w site → g.Z.ZoneMaker.made l.self.zones w site;
  outside : (place : ℕ) → IsFree place l.fn.self.state → IsFree place l.self.state
      × (g.Z.ZoneMaker.byte l.self.zones place ≡ g.Z.ZoneMaker.byte l.fn.self.zones place);
}
