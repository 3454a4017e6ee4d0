use Rattle.applications.proofs.Cited.{◌≡◌, ◌++◌, take, drop, up_to_wait}
use Rattle.applications.proofs.turns.up_to_wait.Given as goal

-- the lines so far end no turn
abbrev pub invariant-loop-index : goal.invariant-loop-index
invariant-loop-index l = take l.index l.lines ++ up_to_wait (drop l.index l.lines) ≡ up_to_wait l.lines
