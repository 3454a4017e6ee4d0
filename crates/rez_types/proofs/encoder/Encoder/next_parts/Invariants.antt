use Rattle.rez_types.proofs.Cited.{◌≡◌, drop, map, part_of, encoding_of, encoded_parts}
use Rattle.rez_types.proofs.encoder.Encoder.next_parts.Given as goal

-- the parts to come lead to what all lead to
abbrev pub invariant-loop-part : goal.invariant-loop-part
invariant-loop-part l = encoded_parts l.number (map part_of (drop l.part-index l.parts)) (encoding_of l.self)
    ≡ encoded_parts 0 (map part_of l.parts) (encoding_of l.fn.self)
