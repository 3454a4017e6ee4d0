use Rattle.macmem_c.proofs.Cited.{◌≡◌, Err, rules}
use Rattle.macmem_c.proofs.Listing.{info_stopped}
use Rattle.macmem_c.proofs.described.info_of.Goals as goal

pub returns-in_err-open-clause-fault : goal.returns-in_err-open-clause-fault
returns-in_err-open-clause-fault c =
    let same : c.from_residual.result ≡ Err c.in_err-open.field-0.0 = search rules in
    rw same (info_stopped _ _ c.in_err-open.ensures.fault)
