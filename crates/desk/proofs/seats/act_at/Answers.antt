use Rattle.desk.proofs.Cited.{◌≡◌, rules, OnOk, on_ok_weaker, on_err_weaker, view, start_of, coming, Seat, place_seen, phase_seen, lot_of}
use Rattle.desk.proofs.Cited.{lots, left_of}
use Rattle.desk.proofs.Places.{acted_there, come_there, left_there, name_there, held_there, none_left, none_acted, lot_there}
use Rattle.desk.proofs.Places.{fewer_same, fewer_there}
use Rattle.desk.proofs.Halting.{place_within, within_there}
use Rattle.desk.proofs.seats.act_at.Goals as goal

pub returns-then-i-len-clause-places : goal.returns-then-i-len-clause-places
returns-then-i-len-clause-places g c =
    let x = c.index_mut-seat.result.now in
    let start = start_of (view x.system.content.now) x.app.now in
    let y : Seat g.row.S.Denot = record x { phase = c.replace_with.new.dest } in
    let after : OnOk c.replace_with.result (phase_seen start c.replace_with.new.dest ≡ (coming c.args.act (place_seen x)).phase) =
    c.replace_with.ensures.0 start in
    on_ok_weaker c.replace_with.result
    (λ h. acted_there place_seen c.args.seats.now.items c.args.seats.now.len c.args.i x (search rules) (search rules)
    (search rules) c.args.act y
    (come_there (place_seen x) (phase_seen start c.replace_with.new.dest) (coming c.args.act (place_seen x)) h))
    after

pub returns-then-i-len-clause-left : goal.returns-then-i-len-clause-left
returns-then-i-len-clause-left g c =
    let x = c.index_mut-seat.result.now in
    left_there place_seen c.args.seats.now.items c.args.seats.now.len c.args.i x (search rules) (search rules) (search rules)
    c.args.act c.replace_with.result left_of (c.replace_with.ensures.1.0 (start_of (view x.system.content.now) x.app.now))

pub returns-then-i-len-clause-name : goal.returns-then-i-len-clause-name
returns-then-i-len-clause-name g c = name_there place_seen c.args.seats.now.items c.args.seats.now.len c.args.i
    c.index_mut-seat.result.now (search rules) (search rules) (search rules) c.replace_with.result (λ d. d.name.now.0.items)
    (search rules)

pub returns-then-i-len-clause-lot : goal.returns-then-i-len-clause-lot
returns-then-i-len-clause-lot g c = lot_there (λ seat. lot_of seat.phase) c.args.seats.now.items
    c.args.seats.now.len c.args.i c.index_mut-seat.result.now (search rules) (search rules) (search rules)
    c.replace_with.result (λ d. (d.window, (g.S.BlockStore.rest d.store).window)) c.replace_with.ensures.1.1.1.0

pub returns-then-i-len-clause-fewer : goal.returns-then-i-len-clause-fewer
returns-then-i-len-clause-fewer g c =
    let x = c.index_mut-seat.result.now in
    let y : Seat g.row.S.Denot = record x { phase = c.replace_with.new.dest } in
    fewer_there (λ seat. lot_of seat.phase) c.args.seats.now.items c.args.seats.now.len c.args.i x (search rules)
    (search rules) (search rules) y c.replace_with.ensures.1.1.1.1.0

pub returns-then-i-len-clause-held : goal.returns-then-i-len-clause-held
returns-then-i-len-clause-held g c =
    let x = c.index_mut-seat.result.now in
    let y : Seat g.row.S.Denot = record x { phase = c.replace_with.new.dest } in
    on_err_weaker c.replace_with.result
    (held_there place_seen c.args.seats.now.items c.args.seats.now.len c.args.i x (search rules) (search rules)
    (search rules) y)
    (c.replace_with.ensures.1.1.1.1.1.0 (start_of (view x.system.content.now) x.app.now))

pub returns-then-i-len-clause-within : goal.returns-then-i-len-clause-within
returns-then-i-len-clause-within g c =
    let x = c.index_mut-seat.result.now in
    let start = start_of (view x.system.content.now) x.app.now in
    let y : Seat g.row.S.Denot = record x { phase = c.replace_with.new.dest } in
    on_err_weaker c.replace_with.result
    (within_there place_seen c.args.seats.now.items c.args.seats.now.len c.args.i x (search rules) (search rules)
    (search rules) c.args.act y)
    (place_within c.replace_with.result (place_seen x) (phase_seen start c.replace_with.new.dest) c.args.act
    (c.replace_with.ensures.1.1.1.1.1.1 start))

pub returns-else-i-len-clause-places : goal.returns-else-i-len-clause-places
returns-else-i-len-clause-places g c = none_acted place_seen c.args.act c.args.seats.now.items c.args.i (search rules)

pub returns-else-i-len-clause-left : goal.returns-else-i-len-clause-left
returns-else-i-len-clause-left g c = none_left place_seen c.args.act c.args.seats.now.items c.args.i (search rules)

pub returns-else-i-len-clause-fewer : goal.returns-else-i-len-clause-fewer
returns-else-i-len-clause-fewer g c = fewer_same (lots c.args.seats.now.items)
