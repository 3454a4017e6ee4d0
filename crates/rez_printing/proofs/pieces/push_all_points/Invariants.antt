use Rattle.rez_printing.proofs.Cited.{◌≡◌, ◌++◌, drop, flat_map, points}
use Rattle.rez_printing.proofs.pieces.push_all_points.Given as goal

-- the points so far, with those to come, are all
abbrev pub invariant-loop-byte : goal.invariant-loop-byte
invariant-loop-byte l = l.out.items ++ flat_map points (drop l.byte-index l.bytes) ≡ l.fn.out.items ++ flat_map points l.bytes
