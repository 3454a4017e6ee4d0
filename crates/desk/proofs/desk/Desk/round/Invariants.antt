use Rattle.desk.proofs.Cited.{◌≡◌, ℕ, ◌-◌, Window, Site, IsFree, Halt, WithinTurns, WithinRound, halted, each_turned, round}
use Rattle.desk.proofs.desk.Desk.round.Given as goal

-- the turns that are left make up the round
abbrev pub invariant-loop-i : goal.invariant-loop-i
invariant-loop-i g l = record {
  rest : each_turned (l.count - l.i) l.i l.self.state ≡ round l.fn.self.state;
  within : (x : Halt) → WithinTurns (λ m. halted m ≡ x) (l.count - l.i) l.i l.self.state
      → WithinRound (λ m. halted m ≡ x) l.fn.self.state;
  memory : l.self.state.memory ≡ l.fn.self.state.memory;
  kept : (w : Window) (site : Site) → g.Z.ZoneMaker.made l.fn.self.zones w site → g.Z.ZoneMaker.made l.self.zones w site;
  outside : (place : ℕ) → IsFree place l.fn.self.state → IsFree place l.self.state
      × (g.Z.ZoneMaker.byte l.self.zones place ≡ g.Z.ZoneMaker.byte l.fn.self.zones place);
}
