use Rattle.rez_values.proofs.Cited.{◌≡◌, drop, map, part_of, taking_of, parts_taken}
use Rattle.rez_values.proofs.taker.Taker.take_parts.Given as goal

-- the parts to come lead to what all lead to
abbrev pub invariant-loop-part : goal.invariant-loop-part
invariant-loop-part l = parts_taken (map part_of (drop l.part-index l.parts)) (taking_of l.self)
    ≡ parts_taken (map part_of l.parts) (taking_of l.fn.self)
