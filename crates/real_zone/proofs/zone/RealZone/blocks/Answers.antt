use Rattle.real_zone.proofs.Cited.{ap, map, block_at}
use Rattle.real_zone.proofs.Passed.{all_passed}
use Rattle.real_zone.proofs.zone.RealZone.blocks.Goals as goal

pub returns : goal.returns
returns c =
    let zone = c.args.self.now in
    ap (map (block_at zone.form zone.address zone.bytes.now)) (all_passed zone.form zone.address zone.bytes.now zone.sound)
