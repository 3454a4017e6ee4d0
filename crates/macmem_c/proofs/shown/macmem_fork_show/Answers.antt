use Rattle.macmem_c.proofs.Cited.{◌≡◌, rules, w32, SFits}
use Rattle.macmem_c.proofs.Handing.{handed}
use Rattle.macmem_c.proofs.shown.macmem_fork_show.Goals as goal

pub returns : goal.returns
returns c =
    let id : c.key_of.result.id ≡ c.args.id = search rules in
    let fits : SFits w32 c.hand_over.result = search rules in (
      c.key_of.result,
      record { kind_is = c.key_of.ensures.kind; id_is = id },
      handed (λ v. v.items) c.statement_of.result _ _ _ _ _ _ _ _ fits c.statement_of.ensures.made
          c.statement_of.ensures.fault c.hand_over.ensures.handed c.hand_over.ensures.stopped,
    )
