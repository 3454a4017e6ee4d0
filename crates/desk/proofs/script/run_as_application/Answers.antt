use Rattle.desk.proofs.Cited.{◌+◌, List, length, ap, Line}
use Rattle.desk.proofs.WholeRegion.{script_lies}
use Rattle.desk.proofs.script.run_as_application.Goals as goal

pub returns-in-Ok-given-clause-lies : goal.returns-in-Ok-given-clause-lies
returns-in-Ok-given-clause-lies g c =
    script_lies c.own_resources.result c.give_in_region-given.result.0 c.in-Ok.resources c.in-Ok-given.given
    (length c.args.region.bytes) c.args.script.now _ c.give_in_region-given.result.1.bytes c.in-Ok.is c.in-Ok-given.is
    c.own_resources.ensures (ap (λ (lines : List Line). length lines + 1) c.steps.ensures.steps)
    c.give_in_region-given.ensures.lies
