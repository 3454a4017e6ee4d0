use Rattle.commands.proofs.Cited.{drop, map, AreParts, part_seen}
use Rattle.commands.proofs.play_asking.are_parts.Given as goal

-- where the files to come are given, all are
abbrev pub invariant-loop-part : goal.invariant-loop-part
invariant-loop-part l = AreParts (map (λ w. w.now) l.words) (map part_seen (drop l.part-index l.parts))
    → AreParts (map (λ w. w.now) l.words) (map part_seen l.parts)
