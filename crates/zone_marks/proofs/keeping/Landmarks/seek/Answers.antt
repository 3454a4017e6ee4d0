use Rattle.zone_marks.proofs.Cited.{NoneGoes, arith, subst, sym, zone_in}
use Rattle.zone_marks.proofs.Marks.Passing.{at-append, at-left}
use Rattle.zone_marks.proofs.Bounds.Going.{stays-whole}
use Rattle.zone_marks.proofs.Marks.Lowering.{begins-way, seen-from}
use Rattle.zone_marks.proofs.keeping.Landmarks.seek.Goals as goal

pub first_going-self-requires : goal.first_going-self-requires
first_going-self-requires c = begins-way _ _ _ c.args.sound.now.sound _ (grind arith)

pub returns : goal.returns
returns c =
    let xs = c.args.sound.now.part.bytes in
    let m = c.requires in (
      m.0,
      (subst (NoneGoes _) (sym (seen-from _ _ _ c.args.sound.now.sound _ (c.start.ensures.begins (zone_in xs) m)).is) (grind
          (arith, at-append, stays-whole, at-left))),
    )
