use Rattle.partitions.proofs.Given.{given_inside, given_apart, given_zone, given_most}
use Rattle.partitions.proofs.finding.granted.Goals as goal

pub returns-clause-inside : goal.returns-clause-inside
returns-clause-inside c =
    given_inside c.args.memory c.args.preferred c.args.minimum c.args.windows.now c.requires.multiple c.requires.least
    c.requires.sizes c.given.result c.given.ensures c.requires.whole c.requires.order c.requires.zones

pub returns-clause-apart : goal.returns-clause-apart
returns-clause-apart c =
    given_apart c.args.memory c.args.preferred c.args.minimum c.args.windows.now c.requires.multiple c.requires.least
    c.requires.sizes c.given.result c.given.ensures c.requires.whole c.requires.order c.requires.zones

pub returns-clause-zone : goal.returns-clause-zone
returns-clause-zone c =
    given_zone c.args.memory c.args.preferred c.args.minimum c.args.windows.now c.requires.multiple c.requires.least
    c.requires.sizes c.given.result c.given.ensures c.requires.whole c.requires.order c.requires.zones

pub returns-clause-most : goal.returns-clause-most
returns-clause-most c =
    given_most c.args.memory c.args.preferred c.args.minimum c.args.windows.now c.given.result c.given.ensures
