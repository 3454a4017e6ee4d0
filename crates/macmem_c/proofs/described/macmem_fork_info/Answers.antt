use Rattle.macmem_c.proofs.Cited.{rules, w32, SFits}
use Rattle.macmem_c.proofs.Handing.{handed}
use Rattle.macmem_c.proofs.described.macmem_fork_info.Goals as goal

pub returns : goal.returns
returns c =
    let fits : SFits w32 c.hand_over.result = search rules in
    handed (λ v. v.items) c.info_of.result _ _ _ _ _ _ _ _ fits c.info_of.ensures.made c.info_of.ensures.fault c.hand_over.ensures.handed
    c.hand_over.ensures.stopped
