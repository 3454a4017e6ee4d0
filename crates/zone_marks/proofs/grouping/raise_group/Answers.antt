use Rattle.zone_marks.proofs.Cited.{rules}
use Rattle.zone_marks.proofs.Marks.Groups.{group-raised}
use Rattle.zone_marks.proofs.grouping.raise_group.Goals as goal

pub returns : goal.returns
returns c = search (rules, group-raised)
