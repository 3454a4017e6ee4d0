use Rattle.zone_drawing.proofs.Cited.{◌≡◌, ◌++◌, map, drop, chosen, lines_text, view_line}
use Rattle.zone_drawing.proofs.text.push_lines.Given as goal

-- what is written, before the lines that are still to be written
abbrev pub invariant-loop-line : goal.invariant-loop-line
invariant-loop-line l = l.text.items ++ lines_text l.digits l.style (chosen l.choice (map view_line (drop l.line-index l.lines)))
    ≡ l.fn.text.items ++ lines_text l.digits l.style (chosen l.choice (map view_line l.lines))
