use Rattle.desk.proofs.Cited.{rules, List, ◌++◌, ◌≡◌, ◌∙◌, ap, sym, subst, refl, length, map, Option, IfSome, eqb-true, Contains, Window}
use Rattle.desk.proofs.Cited.{AppOutcome, told, MadeOf, closed, DeskSeen, seen, lots, place_seen, lot_of, told_seen, Misses, IsOutside}
use Rattle.desk.proofs.Cited.{window_of, granted-order, AllLie, IsFree}
use Rattle.desk.proofs.Leaving.{split_first, no_length, told_next, told_end, first_out, first_made, housed_next, none_out}
use Rattle.desk.proofs.Free.{out-next}
use Rattle.desk.proofs.Lying.{lies_of, left_begins, left_next, left_end}
use Rattle.desk.proofs.desk.Desk.finish.Goals as goal

pub release-requires-clause-made : goal.release-requires-clause-made
release-requires-clause-made g c =
    let one = split_first c.places.seats.items c.remove-seat.new.self.items c.remove-seat.result (search rules)
    c.remove-seat.ensures.value c.remove-seat.ensures.items in
    subst (MadeOf (g.Z.ZoneMaker.made c.places.zones)) (sym c.leave-app.ensures.lot)
    (first_made (g.Z.ZoneMaker.made c.places.zones) (g.Z.ZoneMaker.windows c.places.zones) c.places.grants.windows
    (seen c.places.seats.items) (lot_of c.remove-seat.result.phase) (lots c.places.seats.items)
    (lots c.remove-seat.new.self.items) (ap lots one) c.places.invariant.housed)

pub release-requires-clause-out : goal.release-requires-clause-out
release-requires-clause-out g c =
    let one = split_first c.places.seats.items c.remove-seat.new.self.items c.remove-seat.result (search rules)
    c.remove-seat.ensures.value c.remove-seat.ensures.items in
    subst (λ (o : Option Window). IfSome o (λ w. Contains c.places.grants.windows w)) (sym c.leave-app.ensures.window)
    (first_out (g.Z.ZoneMaker.made c.places.zones) (g.Z.ZoneMaker.windows c.places.zones) c.places.grants.windows
    (seen c.places.seats.items) (seen c.remove-seat.new.self.items) (place_seen c.remove-seat.result)
    (lots c.places.seats.items) (ap seen one) c.places.invariant.housed)

pub returns-clause-windows : goal.returns-clause-windows
returns-clause-windows g c =
    let z : c.places.seats.len ≡ 0 = eqb-true c.places.seats.len 0 (sym c.is_empty.ensures ∙ c.places-test.false) in
    let k : length c.places.seats.items ≡ c.places.seats.len = search rules in
    none_out (g.Z.ZoneMaker.made c.places.zones) (g.Z.ZoneMaker.windows c.places.zones) c.places.grants.windows
    (seen c.places.seats.items) (lots c.places.seats.items) (ap seen (no_length c.places.seats.items (k ∙ z)))
    c.places.invariant.housed

pub returns-clause-apps : goal.returns-clause-apps
returns-clause-apps g c =
    let z : c.places.seats.len ≡ 0 = eqb-true c.places.seats.len 0 (sym c.is_empty.ensures ∙ c.places-test.false) in
    let k : length c.places.seats.items ≡ c.places.seats.len = search rules in
    told_end told_seen told c.places.outcome.items (seen c.places.seats.items) (seen c.self.inside.seats.items)
    (ap seen (no_length c.places.seats.items (k ∙ z))) c.places.invariant.apps
    ∙ ap (λ (d : DeskSeen _). map told d.state.places) c.self.view_is

pub returns-clause-lies : goal.returns-clause-lies
returns-clause-lies g c =
    let z : c.places.seats.len ≡ 0 = eqb-true c.places.seats.len 0 (sym c.is_empty.ensures ∙ c.places-test.false) in
    let k : length c.places.seats.items ≡ c.places.seats.len = search rules in
    subst (λ (d : DeskSeen _). AllLie (g.Z.ZoneMaker.left c.places.zones) d.state.places) c.self.view_is
    (left_end (g.Z.ZoneMaker.left c.places.zones) c.places.grants.windows (seen c.places.seats.items)
    (seen c.self.inside.seats.items) (ap seen (no_length c.places.seats.items (k ∙ z))) c.places.invariant.left)

pub returns-clause-kept : goal.returns-clause-kept
returns-clause-kept g c =
    λ w site m. c.places.invariant.kept w site
    (subst (λ (d : DeskSeen _). g.Z.ZoneMaker.made d.zones w site) (sym c.self.view_is) m)

pub returns-clause-outside : goal.returns-clause-outside
returns-clause-outside g c =
    λ place f. (c.places.invariant.outside place
    (subst (λ (d : DeskSeen _). IsFree place d.state) (sym c.self.view_is) f)).1
    ∙ ap (λ (d : DeskSeen _). g.Z.ZoneMaker.byte d.zones place) c.self.view_is

pub places-init : goal.places-init
places-init g c =
    let k : length c.self.inside.outcome.items ≡ c.self.inside.outcome.len = search rules in
    record {
      apps = ap (λ (xs : List AppOutcome). map told_seen xs ++ map told (seen c.self.inside.seats.items))
          (no_length c.self.inside.outcome.items (k ∙ c.self.invariant.2));
      memory = refl;
      room = search rules;
      housed = c.self.invariant.0;
      left = left_begins (g.Z.ZoneMaker.left c.self.inside.zones) c.self.inside.grants.windows (seen c.self.inside.seats.items);
      kept = λ w site m. m;
      outside = λ place f. (f, refl);
    }

pub places-preserved : goal.places-preserved
places-preserved g c =
    let one = split_first c.places.seats.items c.remove-seat.new.self.items c.remove-seat.result (search rules)
    c.remove-seat.ensures.value c.remove-seat.ensures.items in
    record {
      apps = told_next told_seen told c.places.outcome.items c.push_reserved.new.self.items c.leave-app.result.app
          (seen c.places.seats.items) (seen c.remove-seat.new.self.items) (seen c.self.inside.seats.items)
          (place_seen c.remove-seat.result) c.push_reserved.ensures.items c.leave-app.ensures.told (ap seen one) c.places.invariant.apps;
      memory = search rules;
      room = search rules;
      housed = housed_next (g.Z.ZoneMaker.made c.places.zones) (g.Z.ZoneMaker.made c.release.new.zones)
          (g.Z.ZoneMaker.windows c.places.zones) c.places.grants.windows
          (g.Z.ZoneMaker.windows c.release.new.zones) c.release.new.grants.windows
          (place_seen c.remove-seat.result) (lot_of c.remove-seat.result.phase)
          (seen c.places.seats.items) (seen c.remove-seat.new.self.items) (lots c.places.seats.items)
          (lots c.remove-seat.new.self.items) c.release.ensures.kept (ap seen one) (ap lots one) c.release.ensures.zones
          (c.release.ensures.windows
          ∙ ap (λ (o : Option Window). closed o c.places.grants.windows) c.leave-app.ensures.window)
          c.places.invariant.housed;
      left = left_next (g.Z.ZoneMaker.left c.places.zones) (g.Z.ZoneMaker.left c.release.new.zones) c.places.grants.memory
          c.places.grants.windows c.release.new.grants.windows (place_seen c.remove-seat.result)
          (seen c.places.seats.items) (seen c.remove-seat.new.self.items) (seen c.self.inside.seats.items) (ap seen one)
          (c.release.ensures.windows
          ∙ ap (λ (o : Option Window). closed o c.places.grants.windows) c.leave-app.ensures.window)
          (granted-order c.places.grants)
          (first_out (g.Z.ZoneMaker.made c.places.zones) (g.Z.ZoneMaker.windows c.places.zones) c.places.grants.windows
          (seen c.places.seats.items) (seen c.remove-seat.new.self.items) (place_seen c.remove-seat.result)
          (lots c.places.seats.items) (ap seen one) c.places.invariant.housed)
          (λ w blocks slots m l. c.release.ensures.left w blocks slots
          (subst (λ (o : Option Window). IfSome o (λ v. Misses w v)) (sym c.leave-app.ensures.window) m) l)
          (lies_of g.Z.Store.BlockStore.zone (λ s. (g.Z.Store.BlockStore.rest s).slots)
          (g.Z.ZoneMaker.left c.release.new.zones)
          (place_seen c.remove-seat.result).phase c.leave-app.result.zone c.leave-app.ensures.window
          c.leave-app.ensures.zone c.release.ensures.lies)
          c.places.invariant.left;
      kept = λ w site m. c.release.ensures.kept w site (c.places.invariant.kept w site m);
      outside = out-next g.Z.ZoneMaker.byte c.self.inside.zones c.places.zones c.release.new.zones
          (window_of (place_seen c.remove-seat.result).phase) c.self.inside.grants.windows c.places.grants.windows
          c.release.new.grants.windows
          (c.release.ensures.windows
          ∙ ap (λ (o : Option Window). closed o c.places.grants.windows) c.leave-app.ensures.window)
          (first_out (g.Z.ZoneMaker.made c.places.zones) (g.Z.ZoneMaker.windows c.places.zones) c.places.grants.windows
          (seen c.places.seats.items) (seen c.remove-seat.new.self.items) (place_seen c.remove-seat.result)
          (lots c.places.seats.items) (ap seen one) c.places.invariant.housed)
          (λ place f. c.release.ensures.outside place
          (subst (λ (o : Option Window). IfSome o (λ v. IsOutside place v)) (sym c.leave-app.ensures.window) f))
          c.places.invariant.outside;
    }
