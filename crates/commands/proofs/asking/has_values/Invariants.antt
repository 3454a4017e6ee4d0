use Rattle.commands.proofs.Cited.{◌≤◌, drop, length, map, HasValues}
use Rattle.commands.proofs.asking.has_values.Given as goal

-- where the values that are not yet found are given by the words to come, all are given
abbrev pub invariant-loop-i : goal.invariant-loop-i
invariant-loop-i l = record {
  few : l.found ≤ length l.values;
  so_far : HasValues (map (λ w. w.now) (drop l.i l.words)) l.option (map (λ v. v.now) (drop l.found l.values))
      → HasValues (map (λ w. w.now) l.words) l.option (map (λ v. v.now) l.values);
}
