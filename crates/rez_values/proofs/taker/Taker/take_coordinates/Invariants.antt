use Rattle.rez_values.proofs.Cited.{◌≡◌, ◌-◌, taking_of, coordinates_taken}
use Rattle.rez_values.proofs.taker.Taker.take_coordinates.Given as goal

-- the coordinates to come lead to what all lead to
abbrev pub invariant-loop-i : goal.invariant-loop-i
invariant-loop-i l = coordinates_taken l.kind (l.count - l.i) (taking_of l.self) ≡ coordinates_taken l.kind l.count (taking_of l.fn.self)
