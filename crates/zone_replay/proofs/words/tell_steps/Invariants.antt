use Rattle.zone_replay.proofs.Cited.{◌≡◌, ◌++◌, drop, exit_of, course_of, view_lines, steps_told}
use Rattle.zone_replay.proofs.words.tell_steps.Given as goal

-- what is told so far, before what is told of the steps that are left; and the steps that are left end as all do
abbrev pub invariant-loop-line : goal.invariant-loop-line
invariant-loop-line g l = (l.text.items
    ++ steps_told (view_lines l.source) l.script.blocks (drop l.line-index l.lines) l.application
    ≡ l.fn.text.items ++ steps_told (view_lines l.source) l.script.blocks l.lines l.fn.application)
    × (exit_of (course_of l.script.blocks (drop l.line-index l.lines) l.application)
    ≡ exit_of (course_of l.script.blocks l.lines l.fn.application))
    × ((course_of l.script.blocks (drop l.line-index l.lines) l.application).after
    ≡ (course_of l.script.blocks l.lines l.fn.application).after)
    × (l.application.memory.window ≡ l.fn.application.memory.window)
