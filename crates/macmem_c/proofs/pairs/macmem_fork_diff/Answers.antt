use Rattle.macmem_c.proofs.Cited.{[], rules, w32, SFits}
use Rattle.macmem_c.proofs.Pairing.{paired}
use Rattle.macmem_c.proofs.pairs.macmem_fork_diff.Goals as goal

pub returns-clause-made : goal.returns-clause-made
returns-clause-made c =
    let fits : SFits w32 c.hand_over_pair.result = search rules in
    paired c.combined-made.result _ (record { first = []; second = [] }) _ _ _ _ _ _ _ _ _ fits c.combined-made.ensures.made
    c.combined-made.ensures.fault c.hand_over_pair.ensures.handed c.hand_over_pair.ensures.stopped
