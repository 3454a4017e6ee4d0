use Rattle.block_store.proofs.Cited.{may_be_purged, lowest_purged, purged, opened, spared}
use Rattle.block_store.proofs.Zone.Apart.{apart-tidy}
use Rattle.block_store.proofs.Zone.Spots.{finds}
use Rattle.block_store.proofs.looking.next_purgeable_in.Goals as goal

pub returns : goal.returns
returns g c =
    let zone = g.W.Walk.rest c.args.walk.now in
    finds (may_be_purged (spared c.args.sparing)) (purged c.args.purges c.args.sparing zone) c.find_purgeable_in.result
    (apart-tidy (lowest_purged c.args.purges (spared c.args.sparing) (opened c.args.sparing zone)))
    c.find_purgeable_in.ensures
