use Rattle.desk.proofs.Cited.{Bool, List, ◌+◌, ◌∙◌, ◌||◌, ap, sym, drop, at_drop_more, list_any, runs, Place, Seat, seen, place_seen}
use Rattle.desk.proofs.seats.any_runs.Goals as goal

pub loop-seat-preserved : goal.loop-seat-preserved
loop-seat-preserved g c =
    let seats = c.args.seats.now in
    let i = c.loop-seat.seat-index in
    c.loop-seat.invariant
    ∙ at_drop_more (λ (xs : List (Seat g.row.S.Denot)). list_any (λ (p : Place). runs p.phase) (seen xs)) seats i
    c.seat-item.result c.loop-seat-test.true
    ∙ ap (λ (b : Bool). b || list_any (λ (p : Place). runs p.phase) (seen (drop (i + 1) seats)))
    (ap (λ (x : Seat g.row.S.Denot). runs (place_seen x).phase) (sym c.seat-item.is)
    ∙ sym c.is_running.ensures ∙ c.if-is_running.false)

pub returns-then-is_running : goal.returns-then-is_running
returns-then-is_running g c =
    let seats = c.args.seats.now in
    let i = c.loop-seat.seat-index in
    sym (c.loop-seat.invariant
    ∙ at_drop_more (λ (xs : List (Seat g.row.S.Denot)). list_any (λ (p : Place). runs p.phase) (seen xs)) seats i
    c.seat-item.result c.loop-seat-test.true
    ∙ ap (λ (b : Bool). b || list_any (λ (p : Place). runs p.phase) (seen (drop (i + 1) seats)))
    (ap (λ (x : Seat g.row.S.Denot). runs (place_seen x).phase) (sym c.seat-item.is)
    ∙ sym c.is_running.ensures ∙ c.if-is_running.true))
