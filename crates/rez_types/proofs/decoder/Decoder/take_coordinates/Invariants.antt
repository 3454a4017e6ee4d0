use Rattle.rez_types.proofs.Cited.{◌≡◌, ◌-◌, decoding_of, decoded_coordinates}
use Rattle.rez_types.proofs.decoder.Decoder.take_coordinates.Given as goal

-- the coordinates to come lead to what all lead to
abbrev pub invariant-loop-i : goal.invariant-loop-i
invariant-loop-i l = decoded_coordinates (l.count - l.i) (decoding_of l.self) ≡ decoded_coordinates l.count (decoding_of l.fn.self)
