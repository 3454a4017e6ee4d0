use Rattle.zone_marks.proofs.Cited.{arith, Runs}
use Rattle.zone_marks.proofs.Searches.Pieces.{next-stretch}
use Rattle.zone_marks.proofs.beginning.pass_far.Goals as goal

pub pass_up_to-farther-requires-clause-stretch : goal.pass_up_to-farther-requires-clause-stretch
pass_up_to-farther-requires-clause-stretch c = rw c.requires.come.at c.told_from-told.ensures.stretch

pub pass_up_to-requires-clause-stretch : goal.pass_up_to-requires-clause-stretch
pass_up_to-requires-clause-stretch c = let m = c.requires.marked in
    rw c.requires.come.at (next-stretch _ _ _ c.args.sound.now.sound Runs _ m.marks _ (omega arith))
