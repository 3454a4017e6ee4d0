use Rattle.desk.proofs.Cited.{◌≡◌, rules, true, ap, view, start_of, Phase, Place, Running, Seat, waits, live_seen, place_seen, lot_of}
use Rattle.desk.proofs.Places.{known_there, begun_there, lots_after, waiting_seen}
use Rattle.desk.proofs.seats.start_at.Goals as goal

pub replace_with-requires : goal.replace_with-requires
replace_with-requires g c = waiting_seen _ c.index_mut-seat.result.now.phase
    (known_there place_seen c.args.seats.now.items c.args.seats.now.len c.args.i c.index_mut-seat.result.now (search rules)
    (search rules) (search rules) (λ p. waits p.phase ≡ true) c.requires.waits)

pub returns-clause-places : goal.returns-clause-places
returns-clause-places g c =
    let x = c.index_mut-seat.result.now in
    let y : Seat g.row.S.Denot = record x { phase = c.replace_with.new.dest } in
    begun_there place_seen c.args.seats.now.items c.args.seats.now.len c.args.i x (search rules) (search rules) (search rules)
    y (λ p. record p { phase = Running (live_seen c.args.live) })
    (ap (λ (phase : Phase). let p : Place = record (place_seen x) { phase = phase } in p)
    (c.replace_with.ensures.0 (start_of (view x.system.content.now) x.app.now)))

pub returns-clause-lots : goal.returns-clause-lots
returns-clause-lots g c =
    let x = c.index_mut-seat.result.now in
    let y : Seat g.row.S.Denot = record x { phase = c.replace_with.new.dest } in
    lots_after (λ seat. lot_of seat.phase) c.args.seats.now.items c.args.i y _ c.replace_with.ensures.1
