use Rattle.zone_replay.proofs.Cited.{◌≡◌, drop, map, view_moment, view_lines, gathered_inside}
use Rattle.zone_replay.proofs.inside.take_inside.Given as goal

-- the moments so far, with those that are still to come; and the partition lies where it lay
abbrev pub invariant-loop-line : goal.invariant-loop-line
invariant-loop-line g l = (gathered_inside (view_lines l.source) l.script.blocks l.all (map view_moment l.moments.items)
    (drop l.line-index l.lines) l.application
    ≡ gathered_inside (view_lines l.source) l.script.blocks l.all (map view_moment l.fn.moments.items) l.lines l.fn.application)
    × (l.application.memory.window ≡ l.fn.application.memory.window)
