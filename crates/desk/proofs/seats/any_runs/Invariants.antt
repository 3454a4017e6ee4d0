use Rattle.desk.proofs.Cited.{◌≡◌, drop, list_any, runs, Place, seen}
use Rattle.desk.proofs.seats.any_runs.Given as goal

abbrev pub invariant-loop-seat : goal.invariant-loop-seat
invariant-loop-seat g l =
    list_any (λ (p : Place). runs p.phase) (seen l.seats)
    ≡ list_any (λ (p : Place). runs p.phase) (seen (drop l.seat-index l.seats))
