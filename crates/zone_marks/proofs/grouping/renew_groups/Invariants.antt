use Rattle.zone_marks.proofs.Cited.{◌≡◌, length, AreGroups}
use Rattle.zone_marks.proofs.grouping.renew_groups.Given as goal

abbrev pub invariant-loop-group : goal.invariant-loop-group
invariant-loop-group l = AreGroups l.groups l.marks × (length l.groups ≡ l.group-end)
