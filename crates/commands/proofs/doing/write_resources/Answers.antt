use Rattle.commands.proofs.Cited.{◌≡◌, Err, rules, told_err, quiet_silent}
use Rattle.commands.proofs.doing.write_resources.Goals as goal

-- nothing was printed

pub returns-in_err-extract-clause-undone : goal.returns-in_err-extract-clause-undone
returns-in_err-extract-clause-undone g c =
    let same : c.from_residual.result ≡ Err c.in_err-extract.field-0.0 = search rules in
    told_err _ _ _ same (c.in_err-extract.ensures.silent, c.in_err-extract.ensures.stopped)

pub returns-in_err-extract-clause-quiet : goal.returns-in_err-extract-clause-quiet
returns-in_err-extract-clause-quiet g c =
    let same : c.from_residual.result ≡ Err c.in_err-extract.field-0.0 = search rules in
    told_err _ _ _ same (quiet_silent _ _ _ c.in_err-extract.ensures.silent)
