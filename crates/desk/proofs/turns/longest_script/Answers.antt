use Rattle.desk.proofs.Cited.{ℕ, List, ◌+◌, ◌∙◌, ap, sym, drop, length, max, Line, longest_or, Seat, seen}
use Rattle.desk.proofs.Rounds.{longest_next}
use Rattle.desk.proofs.turns.longest_script.Goals as goal

pub loop-seat-preserved : goal.loop-seat-preserved
loop-seat-preserved g c =
    let seats = c.args.seats.now in
    let i = c.loop-seat.seat-index in
    let most = c.loop-seat.most in
    let steps = c.steps.ensures.steps ∙ ap (λ (x : Seat g.row.S.Denot). x.app.now.script.steps) c.seat-item.is in
    ap (λ (m : ℕ). longest_or m (seen (drop (i + 1) seats)))
    (c.max-most.ensures ∙ ap (λ (lines : List Line). max most (length lines)) steps)
    ∙ sym (longest_next seats i c.seat-item.result most c.loop-seat-test.true) ∙ c.loop-seat.invariant
