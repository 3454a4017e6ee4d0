use Rattle.macmem_c.proofs.Cited.{rules, w32, SFits}
use Rattle.macmem_c.proofs.Handing.{handed}
use Rattle.macmem_c.proofs.rows.macmem_fork_rows.Goals as goal

pub returns : goal.returns
returns c =
    let fits : SFits w32 c.hand_over_rows.result = search rules in
    handed (λ v. v.items) c.rows_in.result _ _ _ _ _ _ _ _ fits c.rows_in.ensures.made c.rows_in.ensures.fault
    c.hand_over_rows.ensures.handed
    c.hand_over_rows.ensures.stopped
