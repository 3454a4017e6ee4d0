use Rattle.macmem_c.proofs.Cited.{rules, w32, SFits}
use Rattle.macmem_c.proofs.Handing.{handed}
use Rattle.macmem_c.proofs.forks.macmem_fork_rewrite.Goals as goal

pub returns : goal.returns
returns c =
    let fits : SFits w32 c.hand_over.result = search rules in
    rw (← c.packaging_of.ensures) (handed (λ v. v.items) c.made.result _ _ _ _ _ _ _ _ fits c.made.ensures.made
    c.made.ensures.fault c.hand_over.ensures.handed c.hand_over.ensures.stopped)
