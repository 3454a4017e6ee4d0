use Rattle.transcript_words.proofs.Cited.{◌≡◌, ◌++◌, drop, map, view_line, placed, view_placed}
use Rattle.transcript_words.proofs.changes.placed_in.Given as goal

-- the blocks so far, before those of the lines that are left
abbrev pub invariant-loop-line : goal.invariant-loop-line
invariant-loop-line l = map view_placed l.blocks.items ++ placed (map view_line (drop l.line-index l.lines))
    ≡ placed (map view_line l.lines)
