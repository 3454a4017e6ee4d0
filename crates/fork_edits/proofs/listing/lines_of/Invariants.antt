use Rattle.fork_edits.proofs.Cited.{◌≡◌}
use Rattle.fork_edits.proofs.listing.lines_of.Given as goal

abbrev pub invariant-loop-line : goal.invariant-loop-line
invariant-loop-line l = l.lines.items ≡ l.yielded
