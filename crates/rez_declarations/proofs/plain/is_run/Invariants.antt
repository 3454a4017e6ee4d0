use Rattle.rez_declarations.proofs.Cited.{◌≡◌, ◌≤◌, ◌*◌, length, map, part_of, is_run}
use Rattle.rez_declarations.proofs.plain.is_run.Given as goal

abbrev pub invariant-loop-rest : goal.invariant-loop-rest
invariant-loop-rest l = record {
  rest : is_run l.bits (8 * l.bytes) (map part_of l.rest) ≡ is_run 0 (8 * l.bytes) (map part_of l.parts);
  all : l.all ≡ 8 * l.bytes;
  small : l.bits ≤ 32;
}

abbrev pub decreases-loop-rest : goal.decreases-loop-rest
decreases-loop-rest l = length l.rest
