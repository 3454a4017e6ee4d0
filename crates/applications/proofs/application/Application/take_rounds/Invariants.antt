use Rattle.applications.proofs.Cited.{◌≡◌, ◌++◌, ◌-◌, List, lines_told, Glance, glances_in, step_in, exit_of, Extends}
use Rattle.applications.proofs.Seeing.{Sees}
use Rattle.applications.proofs.application.Application.take_rounds.Given as goal

-- the text so far, with the lines of the rounds that are left, is the text with the lines of the step; and so is what is seen
abbrev pub invariant-loop-round : goal.invariant-loop-round
invariant-loop-round g l =
    (l.text.items ++ lines_told (step_in (l.most - l._round) l.script.blocks l.line l.self).lines
    ≡ l.fn.text.items ++ lines_told (step_in l.most l.script.blocks l.line l.fn.self).lines)
    × ((step_in (l.most - l._round) l.script.blocks l.line l.self).after ≡ (step_in l.most l.script.blocks l.line l.fn.self).after)
    × (exit_of (step_in (l.most - l._round) l.script.blocks l.line l.self) ≡ exit_of (step_in l.most l.script.blocks l.line l.fn.self))
    × Extends l.fn.text.items l.text.items
    × (l.self.resources.files ≡ l.fn.self.resources.files)
    × ((before : List Glance) → g.O.Onlooker.saw l.fn.onlooker before
    → Sees (g.O.Onlooker.saw l.onlooker) (glances_in (l.most - l._round) l.script.blocks l.line l.self)
    (before ++ glances_in l.most l.script.blocks l.line l.fn.self))
