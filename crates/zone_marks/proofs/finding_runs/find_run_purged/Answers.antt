use Rattle.zone_marks.proofs.Cited.{GREATEST_ZONE, zone_in}
use Rattle.zone_marks.proofs.Bounds.Fewest.{most-fits}
use Rattle.zone_marks.proofs.Marks.Passing.{begins-here}
use Rattle.zone_marks.proofs.Searches.RunStarting.{found-lowest, reached-lowest}
use Rattle.zone_marks.proofs.finding_runs.find_run_purged.Goals as goal
use Rattle.zone_marks.proofs.Stretches.Fewest.{purged-most}

pub search_on-requires-clause-begins : goal.search_on-requires-clause-begins
search_on-requires-clause-begins c = rw c.begun_at.ensures (begins-here 0 _)

pub returns-then-frees_one : goal.returns-then-frees_one
returns-then-frees_one c =
    let n = c.args.sparing in
    found-lowest c.args.bytes GREATEST_ZONE n _ _ _
    (purged-most _ n (zone_in c.args.sound.now.part.bytes) (most-fits _ _ _ c.args.sound.now.sound n))
    (rw c.begun_at.ensures at c.search_on.ensures)

pub returns : goal.returns
returns c = reached-lowest c.args.sound.now.part.bytes c.args.from c.requires.from c.args.bytes GREATEST_ZONE
    c.args.sparing (most-fits _ _ _ c.args.sound.now.sound _) (c.frees_one.ensures c.if-frees_one.false) _
    c.run_below.ensures _ c.search_on-2.ensures

pub search_on-requires-2-clause-begins : goal.search_on-requires-2-clause-begins
search_on-requires-2-clause-begins c = c.run_below.ensures.piece.edge
