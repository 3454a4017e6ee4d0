use Rattle.zone_bytes.proofs.Cited.{◌≡◌, length, ap, arith, rules, written}
use Rattle.zone_bytes.proofs.Tiles.Heads.{next-may}
use Rattle.zone_bytes.proofs.Runs.Hoists.{wide, next, size-read, turned-bytes, is-moved, is-hoisted}
use Rattle.zone_bytes.proofs.hoisting.hoist_block.Given.{Over}
use Rattle.zone_bytes.proofs.hoisting.hoist_block.Goals.{After-rotate}
use Rattle.zone_bytes.proofs.hoisting.hoist_block.Goals as goal

pub read_header-size-requires : goal.read_header-size-requires
read_header-size-requires g c = rw c.requires.0 (next-may (next g.hoist _ _ c.requires.1))

pub rotate-requires-clause-turn : goal.rotate-requires-clause-turn
rotate-requires-clause-turn g c =
    omega (arith, wide, size-read g.hoist _ _ c.requires.1 _ (rw c.requires.0 at c.read_header-size.ensures))

pub rotate-requires-clause-inside : goal.rotate-requires-clause-inside
rotate-requires-clause-inside g c = omega (arith, wide, ap length c.requires.0)

made : (g : Over) (c : After-rotate g) → c.rotate.new.self.bytes
    ≡ written c.args.place (turned-bytes g.hoist c.args.place c.args.stop c.requires.1) g.hoist.bytes
made g c =
    let s = size-read g.hoist _ _ c.requires.1 _ (rw c.requires.0 at c.read_header-size.ensures) in
    rw (c.rotate.ensures.bytes, s, c.requires.0)

pub lead_run-requires : goal.lead_run-requires
lead_run-requires g c = search (rules, made, is-moved)

pub returns-clause-hoisted : goal.returns-clause-hoisted
returns-clause-hoisted g c = is-hoisted _ _ _ c.requires.1 _ (grind (arith, made))
