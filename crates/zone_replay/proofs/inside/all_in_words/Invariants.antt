use Rattle.zone_replay.proofs.Cited.{◌≡◌, ◌++◌, map, view_moment, view_lines, in_words, view_try}
use Rattle.zone_replay.proofs.inside.all_in_words.Given as goal

-- the moments so far, with those that are still to come
abbrev pub invariant-loop-tried : goal.invariant-loop-tried
invariant-loop-tried l = map view_moment l.moments.items
    ++ map (in_words (view_lines l.source)) (map view_try l.tried-iterator.rest.items)
    ≡ map view_moment l.initial.moments.items
    ++ map (in_words (view_lines l.source)) (map view_try l.initial.tried-iterator.rest.items)
