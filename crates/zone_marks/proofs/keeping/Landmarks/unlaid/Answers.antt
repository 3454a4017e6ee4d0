use Rattle.zone_marks.proofs.Cited.{◌≡◌, ◌*◌, arith, sym, subst, replicate, zone_in, AreMarks, AreGroups, above_all, Group, Landmark}
use Rattle.zone_marks.proofs.Cited.{sizes-length}
use Rattle.zone_marks.proofs.Bounds.Going.{stays-above}
use Rattle.zone_marks.proofs.Marks.Lowering.{unlaid-marks}
use Rattle.zone_marks.proofs.Marks.Groups.{same-groups, unknown}
use Rattle.zone_marks.proofs.keeping.Landmarks.unlaid.Goals as goal

pub returns : goal.returns
returns c =
    let xs = c.args.sound.now.part.bytes in
    let count = c.groups_of-count.result in
    let blank : Landmark = record { at = 0; most = above_all; tally = unknown } in
    let marks = c.in_ok-marks.marks.items in
    let groups = c.in_ok-groups.groups.items in
    let none : Group = record { most = above_all; tally = unknown } in
    let f : marks ≡ replicate (count * 16) blank = c.in_ok-marks.ensures.items_if_clones_equal (λ y e. e) in
    let g : groups ≡ replicate count none = c.in_ok-groups.ensures.items_if_clones_equal (λ y e. e) in (
      (
        subst (AreMarks above_all (zone_in xs)) (sym f) (unlaid-marks _ (omega (arith, sizes-length)) _),
        subst (AreGroups groups) (sym f) (grind (arith, same-groups)),
      ),
      stays-above 0 0 (zone_in xs) (omega arith),
    )
