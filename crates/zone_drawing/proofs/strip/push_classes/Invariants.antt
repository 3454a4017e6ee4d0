use Rattle.zone_drawing.proofs.Cited.{◌≡◌, ◌++◌, map, drop, flat_map, class_title, view_line}
use Rattle.zone_drawing.proofs.strip.push_classes.Given as goal

-- what is written, before the classes that are still to be written
abbrev pub invariant-loop-one : goal.invariant-loop-one
invariant-loop-one l = l.text.items ++ flat_map (class_title (map view_line l.bin)) (drop l.one-index l.classes)
    ≡ l.fn.text.items ++ flat_map (class_title (map view_line l.bin)) l.classes
