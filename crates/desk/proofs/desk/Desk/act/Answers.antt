use Rattle.desk.proofs.Cited.{rules, ◌≡◌, ℕ, List, Option, option_map, IfSome, slice_get, Some, refl, subst, sym, ◌∙◌, ap, on_ok_weaker}
use Rattle.desk.proofs.Cited.{◌+◌, ◌≤◌, length, vec_len, vec_capacity, APP_ROOM, Seat, State, acted_at, left_by, IsFree, DeskSeen, seen}
use Rattle.desk.proofs.Cited.{lots, left_of, IsOutsideAll}
use Rattle.desk.proofs.Halting.{halts_begun, halts_at, no_error, room_named, acted_on, acted_out}
use Rattle.desk.proofs.Holding.{acted_in, left-ended, windows-ended, windows-stay}
use Rattle.desk.proofs.Free.{out-of, out-closed}
use Rattle.desk.proofs.Leaving.{housed_same, housed_acted, ended_made}
use Rattle.desk.proofs.desk.Desk.act.Goals as goal

-- the name of an application that ended
named-end : {D : Type 0} (name_of : D → List ℕ) (o : Option D) (d : D) (q : Option (List ℕ)) → o ≡ Some d
    → IfSome o (λ d. q ≡ Some (name_of d)) → q ≡ Some (name_of d)
named-end name_of o d q is named = subst (λ o. IfSome o (λ d. q ≡ Some (name_of d))) is named

pub invariant_of-self-in_err-ended : goal.invariant_of-self-in_err-ended
invariant_of-self-in_err-ended g c = (
  housed_same (g.Z.ZoneMaker.made c.self.inside.zones) (g.Z.ZoneMaker.windows c.self.inside.zones) c.self.inside.grants.windows
      (seen c.self.inside.seats.items) (seen c.act_at.new.seats.items) (lots c.self.inside.seats.items)
      (lots c.act_at.new.seats.items) c.in_err-ended.ensures.held c.act_at.ensures.fewer c.self.invariant.0,
  search rules,
  search rules,
  search rules,
  search rules,
)

pub invariant_of-self-in-None : goal.invariant_of-self-in-None
invariant_of-self-in-None g c = (
  housed_acted (g.Z.ZoneMaker.made c.self.inside.zones) (g.Z.ZoneMaker.made c.self.inside.zones) c.args.act c.args.i
      (g.Z.ZoneMaker.windows c.self.inside.zones) c.self.inside.grants.windows
      (g.Z.ZoneMaker.windows c.self.inside.zones) c.self.inside.grants.windows
      (seen c.self.inside.seats.items) (seen c.act_at.new.seats.items) (lots c.self.inside.seats.items)
      (lots c.act_at.new.seats.items) (λ w site m. m) c.self.invariant.0.same
      (windows-stay left_of c.in_ok-ended.ended (left_by c.args.act (slice_get (seen c.self.inside.seats.items) c.args.i))
      c.self.inside.grants.windows c.in-None.is c.in_ok-ended.ensures.left)
      c.in_ok-ended.ensures.places c.act_at.ensures.fewer c.self.invariant.0,
  search rules,
  search rules,
  search rules,
  search rules,
)

pub give_back-requires-clause-made : goal.give_back-requires-clause-made
give_back-requires-clause-made g c =
    ended_made (λ d. (d.window, (g.Z.Store.BlockStore.rest d.store).window)) (g.Z.ZoneMaker.made c.self.inside.zones)
    (lots c.self.inside.seats.items) c.args.i c.in_ok-ended.ended c.in-Some.departure c.in-Some.is
    c.in_ok-ended.ensures.lot c.self.invariant.0.made

pub give_back-requires-clause-out : goal.give_back-requires-clause-out
give_back-requires-clause-out g c =
    acted_in c.args.act (seen c.self.inside.seats.items) c.args.i c.self.inside.grants.windows (left_of c.in-Some.departure)
    c.self.invariant.0.held
    (left-ended left_of c.in_ok-ended.ended c.in-Some.departure
    (left_by c.args.act (slice_get (seen c.self.inside.seats.items) c.args.i)) c.in-Some.is c.in_ok-ended.ensures.left)

pub invariant_of-self-in-Some : goal.invariant_of-self-in-Some
invariant_of-self-in-Some g c = (
  housed_acted (g.Z.ZoneMaker.made c.self.inside.zones) (g.Z.ZoneMaker.made c.give_back.new.zones) c.args.act c.args.i
      (g.Z.ZoneMaker.windows c.self.inside.zones) c.self.inside.grants.windows
      (g.Z.ZoneMaker.windows c.give_back.new.zones) c.give_back.new.grants.windows
      (seen c.self.inside.seats.items) (seen c.act_at.new.seats.items) (lots c.self.inside.seats.items)
      (lots c.act_at.new.seats.items) c.give_back.ensures.kept c.give_back.ensures.zones
      (windows-ended left_of c.in_ok-ended.ended c.in-Some.departure
      (left_by c.args.act (slice_get (seen c.self.inside.seats.items) c.args.i)) c.in-Some.is c.in_ok-ended.ensures.left
      c.self.inside.grants.windows c.give_back.new.grants.windows c.give_back.ensures.windows)
      c.in_ok-ended.ensures.places c.act_at.ensures.fewer c.self.invariant.0,
  search rules,
  search rules,
  search rules,
  search rules,
)

pub returns-in-Some-clause-outside : goal.returns-in-Some-clause-outside
returns-in-Some-clause-outside g c =
    let here = acted_in c.args.act (seen c.self.inside.seats.items) c.args.i c.self.inside.grants.windows
    (left_of c.in-Some.departure) c.self.invariant.0.held
    (left-ended left_of c.in_ok-ended.ended c.in-Some.departure
    (left_by c.args.act (slice_get (seen c.self.inside.seats.items) c.args.i)) c.in-Some.is c.in_ok-ended.ensures.left) in
    λ place f.
    let free = subst (λ (d : DeskSeen _). IsFree place d.state) (sym c.self.view_is) f in (
      subst (λ ws. IsOutsideAll place ws) (sym c.give_back.ensures.windows)
          (out-closed place (Some c.in-Some.departure.window) c.self.inside.grants.windows free),
      c.give_back.ensures.outside place
          (out-of place (Some c.in-Some.departure.window) c.self.inside.grants.windows here free)
          ∙ ap (λ (d : DeskSeen _). g.Z.ZoneMaker.byte d.zones place) c.self.view_is,
    )

pub returns-in_err-take_end_room-clause-outside : goal.returns-in_err-take_end_room-clause-outside
returns-in_err-take_end_room-clause-outside g c = λ place f. (
  subst (λ (d : DeskSeen _). IsFree place d.state) (sym c.self.view_is) f,
  ap (λ (d : DeskSeen _). g.Z.ZoneMaker.byte d.zones place) c.self.view_is,
)

pub returns-in_err-ended-clause-outside : goal.returns-in_err-ended-clause-outside
returns-in_err-ended-clause-outside g c = λ place f. (
  subst (λ (d : DeskSeen _). IsFree place d.state) (sym c.self.view_is) f,
  ap (λ (d : DeskSeen _). g.Z.ZoneMaker.byte d.zones place) c.self.view_is,
)

pub returns-in-None-clause-outside : goal.returns-in-None-clause-outside
returns-in-None-clause-outside g c = λ place f. (
  subst (λ (d : DeskSeen _). IsFree place d.state) (sym c.self.view_is) f,
  ap (λ (d : DeskSeen _). g.Z.ZoneMaker.byte d.zones place) c.self.view_is,
)

-- the host is out of memory before the act, within it, or never after it
pub returns-in_err-take_end_room-clause-within : goal.returns-in_err-take_end_room-clause-within
returns-in_err-take_end_room-clause-within g c =
    let n : State = record {
      memory = c.self.inside.grants.memory;
      windows = c.self.inside.grants.windows;
      places = seen c.self.inside.seats.items;
      log = c.take_end_room.new.log.items;
    } in
    rw (← c.self.view_is) (halts_begun c.from_residual.result c.args.act c.args.i (record n { log = c.self.inside.log.items }) n
    c.take_end_room.ensures.log refl)

pub returns-in_err-ended-clause-within : goal.returns-in_err-ended-clause-within
returns-in_err-ended-clause-within g c =
    let s : State = record {
      memory = c.self.inside.grants.memory;
      windows = c.self.inside.grants.windows;
      places = seen c.self.inside.seats.items;
      log = c.self.inside.log.items;
    } in
    rw (← c.self.view_is) (halts_at c.from_residual-in_err-ended.result c.args.act c.args.i s
    (record s { places = seen c.act_at.new.seats.items; log = c.take_end_room.new.log.items }) c.take_end_room.ensures.log
    c.in_err-ended.ensures.within)

pub returns-in-Some-clause-within : goal.returns-in-Some-clause-within
returns-in-Some-clause-within g c =
    let room = subst (λ (xs : List (Seat g.row.Z-Store.Denot)). IfSome (slice_get (seen xs) c.args.i)
    (λ p. vec_len c.take_end_room.new.log + length p.name + APP_ROOM ≤ vec_capacity c.take_end_room.new.log))
    c.deref.ensures.value c.in_ok-take_end_room.ensures.room in
    no_error c.write_app_end.result _
    (c.write_app_end.ensures.room
    (room_named (slice_get (seen c.self.inside.seats.items) c.args.i) c.in-Some.departure.name.now.0.items
    (vec_len c.take_end_room.new.log) (vec_capacity c.take_end_room.new.log) APP_ROOM room
    (named-end (λ d. d.name.now.0.items) c.in_ok-ended.ended c.in-Some.departure _ c.in-Some.is c.in_ok-ended.ensures.name)))

-- the state afterwards
pub returns-in-None-clause-ok : goal.returns-in-None-clause-ok
returns-in-None-clause-ok g c =
    let s : State = record {
      memory = c.self.inside.grants.memory;
      windows = c.self.inside.grants.windows;
      places = seen c.self.inside.seats.items;
      log = c.self.inside.log.items;
    } in
    acted_on c.args.act c.args.i s _ _ _ _ (sym c.in_ok-ended.ensures.left ∙ ap (option_map left_of) c.in-None.is) refl
    (windows-stay left_of c.in_ok-ended.ended (left_by c.args.act (slice_get s.places c.args.i)) s.windows c.in-None.is
    c.in_ok-ended.ensures.left) c.in_ok-ended.ensures.places c.take_end_room.ensures.log
    ∙ ap (λ (d : DeskSeen _). acted_at c.args.act c.args.i d.state) c.self.view_is

pub returns-in-Some-clause-ok : goal.returns-in-Some-clause-ok
returns-in-Some-clause-ok g c =
    let s : State = record {
      memory = c.self.inside.grants.memory;
      windows = c.self.inside.grants.windows;
      places = seen c.self.inside.seats.items;
      log = c.self.inside.log.items;
    } in
    let left = left-ended left_of c.in_ok-ended.ended c.in-Some.departure
    (left_by c.args.act (slice_get s.places c.args.i)) c.in-Some.is c.in_ok-ended.ensures.left in
    let log = c.write_app_end.new.text.items in
    let named = (named-end (λ d. d.name.now.0.items) c.in_ok-ended.ended c.in-Some.departure _ c.in-Some.is c.in_ok-ended.ensures.name) in
    let windows = windows-ended left_of c.in_ok-ended.ended c.in-Some.departure
    (left_by c.args.act (slice_get s.places c.args.i)) c.in-Some.is c.in_ok-ended.ensures.left
    s.windows c.give_back.new.grants.windows c.give_back.ensures.windows in
    rw (← c.self.view_is) (on_ok_weaker c.write_app_end.result
    (λ told. acted_out c.args.act c.args.i s (left_of c.in-Some.departure) c.in-Some.departure.name.now.0.items
    c.give_back.new.grants.memory c.give_back.new.grants.windows (seen c.act_at.new.seats.items)
    c.take_end_room.new.log.items log left named c.give_back.ensures.size windows c.in_ok-ended.ensures.places
    c.take_end_room.ensures.log told)
    c.write_app_end.ensures.line)

pub returns-in-Some-clause-kept : goal.returns-in-Some-clause-kept
returns-in-Some-clause-kept g c = λ w site made.
    c.give_back.ensures.kept w site (subst (λ (d : DeskSeen _). g.Z.ZoneMaker.made d.zones w site) (sym c.self.view_is) made)
