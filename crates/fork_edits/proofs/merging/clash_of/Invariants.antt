use Rattle.fork_edits.proofs.Cited.{◌≡◌, map, drop, clash, view_row, AreWaiting}
use Rattle.fork_edits.proofs.merging.clash_of.Given as goal

-- all of the second list wait yet, and what stands in both is among the resources to come
abbrev pub invariant-loop-old : goal.invariant-loop-old
invariant-loop-old l = record {
  waiting : AreWaiting l.waiting (map view_row l.news);
  first : clash (map view_row (drop l.old-index l.olds)) (map view_row l.news) ≡ clash (map view_row l.olds) (map view_row l.news);
}
