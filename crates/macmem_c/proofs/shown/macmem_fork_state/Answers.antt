use Rattle.macmem_c.proofs.Cited.{◌≡◌, [], rules, w32, SFits}
use Rattle.macmem_c.proofs.Pairing.{combines}
use Rattle.macmem_c.proofs.shown.macmem_fork_state.Goals as goal

pub returns : goal.returns
returns c =
    let id : c.key_of.result.id ≡ c.args.id = search rules in
    let fits : SFits w32 c.hand_over_pair.result = search rules in (
      c.key_of.result,
      record { kind_is = c.key_of.ensures.kind; id_is = id },
      rw (← c.packaging_of.ensures) (combines c.combined-made.result _ (record { first = []; second = [] }) _ _ _ _ _ _ _ _ _ fits
          c.combined-made.ensures.made c.combined-made.ensures.fault c.hand_over_pair.ensures.handed c.hand_over_pair.ensures.stopped),
    )
