use Rattle.rez_declarations.proofs.Cited.{◌≡◌, fields_of, each_counts}
use Rattle.rez_declarations.proofs.sounding.does_each_count.Given as goal

abbrev pub invariant-loop-left : goal.invariant-loop-left
invariant-loop-left l = each_counts l.left (fields_of l.fields) ≡ each_counts l.counts (fields_of l.fields)

abbrev pub decreases-loop-left : goal.decreases-loop-left
decreases-loop-left l = l.left
