use Rattle.zone_marks.proofs.Marks.Lowering.{marks-in}
use Rattle.zone_marks.proofs.grouping.renew_groups.Goals as goal

pub group_of-requires : goal.group_of-requires
group_of-requires c =
    let r = c.requires.marks in
    (_, r.1, r.2, marks-in _ _ _ _ _ r.3)
