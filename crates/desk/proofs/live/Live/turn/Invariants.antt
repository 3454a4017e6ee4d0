use Rattle.desk.proofs.Cited.{◌≡◌, drop, false, live_seen, WithinTurn, Launched, leaves, turned, turn_through}
use Rattle.desk.proofs.live.Live.turn.Given as goal

-- the turn goes on where it stands, through the lines that are left
abbrev pub invariant-loop-line : goal.invariant-loop-line
invariant-loop-line g l = record {
  partition : l.self.partition ≡ l.fn.self.partition;
  lies : l.self.application.memory.window ≡ l.fn.self.application.memory.window;
  within : (x : Launched) → WithinTurn (λ m. leaves false m ≡ x) (drop l.line-index l.line-items) l.script (live_seen l.self)
      → WithinTurn (λ m. leaves false m ≡ x) (drop l.fn.self.steps l.script.steps) l.script (live_seen l.fn.self);
  came : turned l.script (live_seen l.fn.self) ≡ turn_through (drop l.line-index l.line-items) l.script (live_seen l.self);
}
