use Rattle.desk.proofs.Cited.{◌≡◌, ◌≤◌, ◌+◌, arith, Option, Some, IfSome, length, slice_get, refl, sym, subst, vec_len}
use Rattle.desk.proofs.Cited.{vec_capacity, on_ok_weaker, APP_ROOM, Place, place_seen, seen}
use Rattle.desk.proofs.Changes.{seen-some, seen-none}
use Rattle.desk.proofs.desk.take_end_room.Goals as goal

pub returns-in-Some-clause-room : goal.returns-in-Some-clause-room
returns-in-Some-clause-room g c =
    let here : slice_get (seen c.args.seats.now) c.args.i ≡ Some (place_seen c.in-Some.seat.now) =
    seen-some place_seen c.args.seats.now c.args.seats.now c.args.i c.in-Some.seat.now refl c.in-Some.ensures.lookup.3.0
    c.in-Some.ensures.lookup.1 in
    let name = c.len.ensures.value in
    on_ok_weaker c.reserve.result
    (λ room. subst (λ (o : Option Place). IfSome o (λ p. vec_len c.reserve.new.self + length p.name + APP_ROOM
    ≤ vec_capacity c.reserve.new.self)) (sym here) (omega (arith, room, name)))
    c.reserve.ensures.ok

pub returns-in-None-clause-room : goal.returns-in-None-clause-room
returns-in-None-clause-room g c =
    subst (λ (o : Option Place). IfSome o (λ p. vec_len c.args.log.now + length p.name + APP_ROOM
    ≤ vec_capacity c.args.log.now))
    (sym (seen-none place_seen c.args.seats.now c.args.seats.now c.args.i c.get.result refl c.get.ensures.lookup c.in-None.is))
    tt
