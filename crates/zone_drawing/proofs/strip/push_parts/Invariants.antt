use Rattle.zone_drawing.proofs.Cited.{◌≡◌, ◌++◌, ◌*◌, ◌≤◌, map, drop, view_line}
use Rattle.zone_drawing.specs.Strip.{parts}
use Rattle.zone_drawing.proofs.strip.push_parts.Given as goal

-- what is written, before the parts that are still to be written; and the bytes of the parts so far
abbrev pub invariant-loop-one : goal.invariant-loop-one
invariant-loop-one l = record {
  rest : l.text.items ++ parts l.size l.extent (map view_line l.bin) l.before (drop l.one-index l.classes)
      ≡ l.fn.text.items ++ parts l.size l.extent (map view_line l.bin) 0 l.classes;
  few : l.before ≤ 79228162514264337593543950336 * l.one-index;
}
