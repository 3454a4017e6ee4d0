use Rattle.lint.proofs.Cited.{◌≡◌, ◌++◌, map, drop, statement, missing_lines, unfinished_at, seen}
use Rattle.lint.proofs.script.say_missing.Given as goal

-- the faults so far, and those of the steps that are still to be looked at, are those of all of them
abbrev pub invariant-loop-step : goal.invariant-loop-step
invariant-loop-step l =
    map seen l.faults.items ++ map unfinished_at (missing_lines l.above (map statement (drop l.step-index l.steps)))
    ≡ map seen l.fn.faults.items ++ map unfinished_at (missing_lines l.above (map statement l.steps))
