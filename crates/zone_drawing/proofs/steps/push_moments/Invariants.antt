use Rattle.zone_drawing.proofs.Cited.{◌≡◌, ◌++◌, None, map, drop, option_map, moment_strips, view_moment}
use Rattle.zone_drawing.proofs.steps.push_moments.Given as goal

-- what is written, before the strips that are still to be written
abbrev pub invariant-loop-index : goal.invariant-loop-index
invariant-loop-index l = l.text.items ++ moment_strips l.window l.least l.index (option_map (λ m. view_moment m.now) l.before)
    (map view_moment (drop l.index l.moments))
    ≡ l.fn.text.items ++ moment_strips l.window l.least 0 None (map view_moment l.moments)
