use Rattle.zone_replay.proofs.Cited.{◌≡◌, drop, map, gathered, view_moment, view_lines, moments_of}
use Rattle.zone_replay.proofs.moments.take_moments.Given as goal

-- the moments so far, with those that are still to come; and the partition lies where it lay
abbrev pub invariant-loop-line : goal.invariant-loop-line
invariant-loop-line g l = (gathered l.all (map view_moment l.moments.items)
    (moments_of (view_lines l.source) l.script.blocks (drop l.line-index l.lines) l.application)
    ≡ gathered l.all (map view_moment l.fn.moments.items)
    (moments_of (view_lines l.source) l.script.blocks l.lines l.fn.application))
    × (l.application.memory.window ≡ l.fn.application.memory.window)
