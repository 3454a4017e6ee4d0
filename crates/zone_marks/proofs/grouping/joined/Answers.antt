use Rattle.zone_marks.proofs.Cited.{ap, sym, ◌∙◌, arith, known_load, prefix}
use Rattle.zone_marks.proofs.Marks.Tallies.{loads-fit, tally_of-more, tally_of-unknown}
use Rattle.zone_marks.proofs.grouping.joined.Goals as goal
use Rattle.zone_marks.proofs.Stretches.Sums.{ends-load}

-- one landmark of which nothing is known
pub returns-in-Unknown : goal.returns-in-Unknown
returns-in-Unknown c = grind (arith, tally_of-unknown)

pub join-all-requires : goal.join-all-requires
join-all-requires c =
    omega (
      arith,
      loads-fit c.args.counting _ _ c.args.marks.now c.loop-mark.mark-index (omega arith) c.requires.3,
      ap known_load c.loop-mark.invariant,
      ap known_load (sym c.in-Known.is ∙ c.told.ensures),
      ends-load c.loop-mark.all c.in-Known.stretch,
    )

pub with-all-requires : goal.with-all-requires
with-all-requires c =
    omega (
      arith,
      loads-fit c.args.counting _ _ c.args.marks.now c.loop-mark.mark-index (omega arith) c.requires.3,
      ap known_load c.loop-mark.invariant,
      ap known_load (sym c.in-Known-Whole.is ∙ c.told.ensures),
      ends-load c.loop-mark.all c.in-Known-Whole.field-0,
      ap prefix c.in-Known-Whole.field-0-is,
    )

pub loop-mark-preserved : goal.loop-mark-preserved
loop-mark-preserved c = grind (arith, tally_of-more)
