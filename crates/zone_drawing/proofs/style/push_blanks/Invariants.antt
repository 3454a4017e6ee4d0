use Rattle.zone_drawing.proofs.Cited.{◌≡◌, ◌++◌, replicate}
use Rattle.zone_drawing.proofs.style.push_blanks.Given as goal

-- the blanks so far
abbrev pub invariant-loop-blank : goal.invariant-loop-blank
invariant-loop-blank l = l.text.items ≡ l.fn.text.items ++ replicate l._blank 32
