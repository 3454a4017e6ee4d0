use Rattle.macmem_c.proofs.Cited.{◌≡◌, ◌∙◌, Err, refl, ap, map, rules, view_row}
use Rattle.macmem_c.proofs.Listing.{rows_there, rows_stopped}
use Rattle.macmem_c.proofs.rows.rows_in.Goals as goal

pub returns-in_err-open-clause-fault : goal.returns-in_err-open-clause-fault
returns-in_err-open-clause-fault c =
    let same : c.from_residual.result ≡ Err c.in_err-open.field-0.0 = search rules in
    rw same (rows_stopped _ _ _ refl c.in_err-open.ensures.no_content)

pub returns-in_err-content-clause-fault : goal.returns-in_err-content-clause-fault
returns-in_err-content-clause-fault c =
    let same : c.from_residual-in_err-content.result ≡ Err c.in_err-content.field-0.0 = search rules in
    rw same (rows_stopped _ _ _ c.in_ok-open.ensures.bytes c.in_err-content.ensures.fault)

pub returns-clause-made : goal.returns-clause-made
returns-clause-made c = rows_there _ _ _ _ _ c.in_ok-open.ensures.bytes c.in_ok-content.ensures.content
    (ap (map view_row) c.as_slice.ensures.value ∙ c.in_ok-all.ensures) c.in_ok-rows_as.ensures
