use Rattle.real_zone_view.proofs.Cited.{◌≡◌, ◌++◌, replicate}
use Rattle.real_zone_view.proofs.fields.push_blanks.Given as goal

-- the blanks so far
abbrev pub invariant-loop-blank : goal.invariant-loop-blank
invariant-loop-blank l = l.text.items ≡ l.fn.text.items ++ replicate l._blank 32
