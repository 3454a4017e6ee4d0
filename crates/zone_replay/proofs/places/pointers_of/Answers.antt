use Rattle.zone_replay.proofs.Cited.{get, nat_cmp, points_to, tag_by}
use Rattle.zone_replay.proofs.Entering.{all-entered, unknown}
use Rattle.zone_replay.proofs.places.pointers_of.Goals as goal

pub returns : goal.returns
returns c key = all-entered (tag_by c.args.names.now c.args.owners.now) (get nat_cmp c.loop-number.tags key) (points_to key)
    c.loop-number.number c.args.anchors.now _ (unknown c.args.names.now c.args.owners.now c.requires.names c.requires.owners)
    c.loop-number-test.false (c.loop-number.invariant key)
