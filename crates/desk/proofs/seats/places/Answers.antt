use Rattle.desk.proofs.Cited.{rules, refl, ap, ◌∙◌, None, Option, view, place_given, Lot, place_seen, lot_of, seen, lots}
use Rattle.desk.proofs.Places.{pushed_there}
use Rattle.desk.proofs.seats.places.Goals as goal

pub loop-app-init : goal.loop-app-init
loop-app-init g c = record {
  seen = ap seen (c.reserve.ensures.items ∙ c.new-seats.ensures.items);
  lots = ap lots (c.reserve.ensures.items ∙ c.new-seats.ensures.items);
  len = search rules;
  room = search rules;
}

pub loop-app-preserved : goal.loop-app-preserved
loop-app-preserved g c = record {
  seen = pushed_there place_seen (place_given (view c.args.system.now)) c.loop-app.seats.items c.push.new.self.items
      _ c.args.apps.now c.loop-app.app-index c.app-item.result c.in-Ok.ensures.items c.loop-app.invariant.seen
      c.loop-app-test.true c.app-item.is refl;
  lots = pushed_there (λ seat. lot_of seat.phase) (λ app. let none : Option Lot = None in none) c.loop-app.seats.items
      c.push.new.self.items _ c.args.apps.now c.loop-app.app-index c.app-item.result c.in-Ok.ensures.items
      c.loop-app.invariant.lots c.loop-app-test.true c.app-item.is refl;
  len = search rules;
  room = search rules;
}
