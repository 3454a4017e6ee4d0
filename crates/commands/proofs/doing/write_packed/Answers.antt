use Rattle.commands.proofs.Cited.{◌≡◌, Err, rules, told_err, quiet_silent}
use Rattle.commands.proofs.doing.write_packed.Goals as goal

-- nothing was printed

pub returns-in_err-pack-clause-undone : goal.returns-in_err-pack-clause-undone
returns-in_err-pack-clause-undone g c =
    let same : c.from_residual.result ≡ Err c.in_err-pack.field-0.0 = search rules in
    told_err _ _ _ same (c.in_err-pack.ensures.silent, c.in_err-pack.ensures.stopped)

pub returns-in_err-pack-clause-quiet : goal.returns-in_err-pack-clause-quiet
returns-in_err-pack-clause-quiet g c =
    let same : c.from_residual.result ≡ Err c.in_err-pack.field-0.0 = search rules in
    told_err _ _ _ same (quiet_silent _ _ _ c.in_err-pack.ensures.silent)
