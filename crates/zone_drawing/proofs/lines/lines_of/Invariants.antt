use Rattle.zone_drawing.proofs.Cited.{◌≡◌, ◌+◌, ◌++◌, map, drop, lines, seen_sizes, view_line, known_by}
use Rattle.zone_drawing.proofs.lines.lines_of.Given as goal

-- the lines so far, and those of the blocks that are left, are all
abbrev pub invariant-loop-block : goal.invariant-loop-block
invariant-loop-block l = (l.place + seen_sizes (drop l.block-index l.blocks) ≡ seen_sizes l.blocks)
    × (map view_line l.shown.items
    ++ lines (known_by l.handles l.pointers) l.place (drop l.block-index l.blocks)
    ≡ lines (known_by l.handles l.pointers) 0 l.blocks)
