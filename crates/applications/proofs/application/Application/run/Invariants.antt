use Rattle.applications.proofs.Cited.{◌≡◌, ◌++◌, ◌+◌, take, drop, false, length, append_known, lines_told, course_of, Came, exit_of}
use Rattle.applications.proofs.Cited.{reports, steps_taken}
use Rattle.applications.proofs.application.Application.run.Given as goal

-- the text so far, with the lines of the steps that are left, is the text with the lines of all; and the end is theirs;
-- and of the first steps, all that a run leaves that stops
abbrev pub invariant-loop-line : goal.invariant-loop-line
invariant-loop-line g l =
    (l.text.items ++ lines_told (course_of l.script.blocks (drop l.line-index l.lines) l.self).lines ≡ l.fn.text.items
    ++ lines_told (course_of l.script.blocks l.lines l.fn.self).lines)
    × ((course_of l.script.blocks (drop l.line-index l.lines) l.self).after
    ≡ (course_of l.script.blocks l.lines l.fn.self).after)
    × (exit_of (course_of l.script.blocks (drop l.line-index l.lines) l.self)
    ≡ exit_of (course_of l.script.blocks l.lines l.fn.self))
    × record {
      over : (course_of l.script.blocks (take l.line-index l.lines) l.fn.self).over ≡ false;
      came : Came (course_of l.script.blocks (take l.line-index l.lines) l.fn.self) l.fn.text.items l.text.items l.self;
      count : l.line-index + steps_taken l.script.blocks (drop l.line-index l.lines) l.self
          ≡ steps_taken l.script.blocks l.lines l.fn.self;
      done : l.done ≡ l.line-index;
      heard : g.W.Watch.heard l.watch
          ≡ append_known (g.W.Watch.heard l.fn.watch) (reports l.line-index (length l.lines));
    }
