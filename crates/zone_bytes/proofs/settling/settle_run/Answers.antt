use Rattle.zone_bytes.proofs.Cited.{◌≡◌, [], arith, rules, UntilAt, rest_from, NEVER_ENOUGH}
use Rattle.zone_bytes.proofs.Runs.Settled.{all-gone, settled-led, whole}
use Rattle.zone_bytes.proofs.settling.settle_run.Goals.{After-pack_until}
use Rattle.zone_bytes.proofs.settling.settle_run.Given.{Over}
use Rattle.zone_bytes.proofs.settling.settle_run.Goals as goal

nothing-left : (g : Over) (c : After-pack_until g) → rest_from g.lay c.pack_until.result.stop ≡ []
nothing-left g c = all-gone g.lay c.args.place c.requires.1.0 c.pack_until.ensures.packed (omega arith)

done : (g : Over) (c : After-pack_until g) → let p = c.pack_until.result in
    UntilAt g.lay c.args.place 0 NEVER_ENOUGH p.lowered p.top p.stop c.pack_until.new.part.bytes g.lay.run []
done g c = whole g.lay c.args.place c.requires.1.0 c.pack_until.ensures.packed (nothing-left g c)

pub returns-clause-settled : goal.returns-clause-settled
returns-clause-settled g c =
    settled-led _ _ _ _ _ c.requires.1.0 (done g (goal.at.returns-clause-settled g c).After-pack_until).packed

pub returns-clause-top : goal.returns-clause-top
returns-clause-top g c = (done g (goal.at.returns-clause-top g c).After-pack_until).top_at

pub returns-clause-stop : goal.returns-clause-stop
returns-clause-stop g c = (done g (goal.at.returns-clause-stop g c).After-pack_until).stop_at

pub returns-clause-edges : goal.returns-clause-edges
returns-clause-edges g c = search (rules, nothing-left)
