use Rattle.rez_types.proofs.Cited.{◌≡◌, ◌-◌, encoding_of, encoded_coordinates}
use Rattle.rez_types.proofs.encoder.Encoder.write_coordinates.Given as goal

-- the coordinates to come lead to what all lead to
abbrev pub invariant-loop-i : goal.invariant-loop-i
invariant-loop-i l = encoded_coordinates (l.count - l.i) (encoding_of l.self) ≡ encoded_coordinates l.count (encoding_of l.fn.self)
