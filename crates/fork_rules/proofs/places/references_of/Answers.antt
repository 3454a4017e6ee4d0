use Rattle.fork_rules.proofs.Cited.{arith, ◌∙◌, ◌+◌, ◌-◌, ap, ◌++◌, flat_map, offsets, ref_places}
use Rattle.fork_rules.proofs.Listing.{next_listed}
use Rattle.fork_rules.proofs.places.references_of.Goals as goal

pub loop-preserved : goal.loop-preserved
loop-preserved c = record {
  place = omega arith;
  all = ap (λ l. l ++ flat_map (λ type. ref_places type c.args.bytes.now) (offsets (c.loop.at + 8) 8
      (c.args.count - (c.loop.counter + 1)))) c.in_ok-push_references.ensures
      ∙ next_listed (λ type. ref_places type c.args.bytes.now) c.loop.places.items c.loop.at 8 c.args.count c.loop.counter _
      c.loop-test.true c.loop.invariant.all;
}
