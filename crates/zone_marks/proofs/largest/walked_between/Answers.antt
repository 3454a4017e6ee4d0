use Rattle.zone_marks.proofs.Cited.{arith, rules, Runs, Spaces}
use Rattle.zone_marks.proofs.Bounds.Fewest.{stretch-from}
use Rattle.zone_marks.proofs.Marks.Lowering.{begins-way}
use Rattle.zone_marks.specs.declared.landmark.Tally.TheVariants as tally
use Rattle.zone_marks.proofs.largest.walked_between.Goals as goal

pub measure_up_to-requires : goal.measure_up_to-requires
measure_up_to-requires c = search (rules, begins-way)

pub spaces_up_to-requires : goal.spaces_up_to-requires
spaces_up_to-requires c = search (rules, begins-way)

pub returns-in-Runs : goal.returns-in-Runs
returns-in-Runs c = let s = c.requires.stretch.1 in
    rw c.in-Runs.is (stretch-from _ _ _ c.args.sound.now.sound Runs (tally.Known c.measure_up_to.result.runs) _ _
    c.requires.begins s.edge (omega arith) c.measure_up_to.ensures.below.runs)

pub returns-in-Spaces : goal.returns-in-Spaces
returns-in-Spaces c = let s = c.requires.stretch.1 in
    rw c.in-Spaces.is (stretch-from _ _ _ c.args.sound.now.sound Spaces (tally.Known c.spaces_up_to.result) _ _
    c.requires.begins s.edge (omega arith) c.spaces_up_to.ensures)
