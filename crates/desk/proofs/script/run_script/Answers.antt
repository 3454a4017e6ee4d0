use Rattle.desk.proofs.Cited.{◌+◌, length, own_resources, keeps_promises}
use Rattle.desk.proofs.script.run_script.Goals as goal

pub returns-clause-laws : goal.returns-clause-laws
returns-clause-laws g c =
    keeps_promises own_resources (length c.args.region.bytes) c.args.script.now (length c.args.script.now.steps + 1)
