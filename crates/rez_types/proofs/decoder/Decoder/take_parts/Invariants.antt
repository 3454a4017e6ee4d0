use Rattle.rez_types.proofs.Cited.{◌≡◌, ◌≤◌, ◌*◌, drop, map, part_of, decoding_of, decoded_parts}
use Rattle.rez_types.proofs.decoder.Decoder.take_parts.Given as goal

-- the parts to come lead to what all lead to
abbrev pub invariant-loop-part : goal.invariant-loop-part
invariant-loop-part l = record {
  rest : decoded_parts l.number l.left (map part_of (drop l.part-index l.parts)) (decoding_of l.self)
      ≡ decoded_parts l.number (8 * l.bytes) (map part_of l.parts) (decoding_of l.fn.self);
  small : l.left ≤ 32;
}
