use Rattle.applications.proofs.Cited.{◌≡◌, ◌++◌, List, drop, lines_told, grown, Glance, glances_grown, Extends}
use Rattle.applications.proofs.Seeing.{Sees}
use Rattle.applications.proofs.application.Application.take_lines.Given as goal

-- the text so far, with the lines of the calls that are left, is the text with the lines of all; and so is what is seen
abbrev pub invariant-loop-line : goal.invariant-loop-line
invariant-loop-line g l =
    (l.text.items ++ lines_told (grown l.script.blocks (drop l.line-index l.lines) l.self).lines
    ≡ l.fn.text.items ++ lines_told (grown l.script.blocks l.lines l.fn.self).lines)
    × ((grown l.script.blocks (drop l.line-index l.lines) l.self).after ≡ (grown l.script.blocks l.lines l.fn.self).after)
    × Extends l.fn.text.items l.text.items
    × (l.self.resources.files ≡ l.fn.self.resources.files)
    × ((before : List Glance) → g.O.Onlooker.saw l.fn.onlooker before
    → Sees (g.O.Onlooker.saw l.onlooker) (glances_grown l.script.blocks (drop l.line-index l.lines) l.self)
    (before ++ glances_grown l.script.blocks l.lines l.fn.self))
