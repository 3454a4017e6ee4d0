use Rattle.zone_bytes.proofs.Cited.{◌+◌, ◌<◌, [], arith, rules, movers, gone_to}
use Rattle.zone_bytes.proofs.Runs.Raises.{gap-fits, none-lifted, none-edges, raise-part, upper-run, both-lifted}
use Rattle.zone_bytes.proofs.Runs.Raises.{both-stop, both-edges}
use Rattle.zone_bytes.proofs.raising.raise_run.Given.{Over}
use Rattle.zone_bytes.proofs.raising.raise_run.Goals.{Else-packed-place}
use Rattle.zone_bytes.proofs.raising.raise_run.Goals as goal

pub pack_until-packed-requires : goal.pack_until-packed-requires
pack_until-packed-requires g c = (c.requires.0, (c.requires.1.run, (c.requires.2, omega (arith, gap-fits))))

pub returns-then-packed-place-clause-lifted : goal.returns-then-packed-place-clause-lifted
returns-then-packed-place-clause-lifted g c = search (rules, none-lifted)

pub returns-then-packed-place-clause-stop : goal.returns-then-packed-place-clause-stop
returns-then-packed-place-clause-stop g c = search rules

some : (g : Over) (c : Else-packed-place g) → c.args.place < c.pack_until-packed.result.top
some g c = omega arith

pub lift_blocks-requires : goal.lift_blocks-requires
lift_blocks-requires g c = search (rules, raise-part)

pub settle_above-requires : goal.settle_above-requires
settle_above-requires g c = search (rules, upper-run)

pub returns-clause-lifted : goal.returns-clause-lifted
returns-clause-lifted g c = search (rules, both-lifted)

pub returns-clause-stop : goal.returns-clause-stop
returns-clause-stop g c = search (rules, both-stop)

pub returns-then-packed-place-clause-edges : goal.returns-then-packed-place-clause-edges
returns-then-packed-place-clause-edges g c = λ a.
    none-edges _ _ _ c.requires.1 c.requires.2 _ _ _ _ _ _ c.pack_until-packed.ensures.packed
    c.if-packed-place.true c.pack_until-packed.new.edges
    (c.pack_until-packed.ensures.edges (c.args.place + c.args.gap) [] (omega arith) a)

pub returns-clause-edges : goal.returns-clause-edges
returns-clause-edges g c = λ a.
    both-edges _ _ _ c.requires.1 c.requires.2 _ _ _ _ _ _ c.pack_until-packed.ensures.packed
    c.settle_above.new.edges (c.settle_above.ensures.edges (c.args.place + c.args.gap)
    (movers (gone_to g.lay c.pack_until-packed.result.stop)) (omega arith)
    (c.pack_until-packed.ensures.edges (c.args.place + c.args.gap) [] (omega arith) a))
