use Rattle.zone_replay.proofs.Cited.{◌≡◌, ◌+◌, ◌≤◌, drop, steps_to}
use Rattle.zone_replay.proofs.behind.steps_to.Given as goal

-- the steps so far, and those among the lines that are still to come, are all
abbrev pub invariant-loop-line : goal.invariant-loop-line
invariant-loop-line l = (l.steps + steps_to l.n (drop l.line-index l.lines) ≡ steps_to l.n l.lines)
    × (l.steps ≤ l.line-index)
