use Rattle.rez_declarations.proofs.Cited.{◌≡◌, ◌≤◌, ◌*◌, drop, map, part_of, key_among}
use Rattle.rez_declarations.proofs.keys.key_among.Given as goal

-- the key among the parts to come is that among all
abbrev pub invariant-loop-part : goal.invariant-loop-part
invariant-loop-part l = record {
  rest : key_among l.before l.bytes l.left (map part_of (drop l.part-index l.parts))
      ≡ key_among l.before l.bytes (8 * l.bytes) (map part_of l.parts);
  small : l.left ≤ 32;
}
