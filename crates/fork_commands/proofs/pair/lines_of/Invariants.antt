use Rattle.fork_commands.proofs.Cited.{◌≡◌, ◌++◌, drop, map, flat_map, difference_line, view_difference}
use Rattle.fork_commands.proofs.pair.lines_of.Given as goal

-- the lines so far, with those of the differences to come, are all
abbrev pub invariant-loop-difference : goal.invariant-loop-difference
invariant-loop-difference l =
    l.out.items ++ flat_map (difference_line l.charset) (map view_difference (drop l.difference-index l.found))
    ≡ flat_map (difference_line l.charset) (map view_difference l.found)
