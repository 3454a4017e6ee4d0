use Rattle.rez_declarations.proofs.Cited.{◌≡◌, drop, map, part_of, parts_judged}
use Rattle.rez_declarations.proofs.plain.judge_parts.Given as goal

-- the parts to come are judged as all are
abbrev pub invariant-loop-part : goal.invariant-loop-part
invariant-loop-part l = parts_judged (map part_of (drop l.part-index l.parts)) l.judged ≡ parts_judged (map part_of l.parts) l.fn.shape
