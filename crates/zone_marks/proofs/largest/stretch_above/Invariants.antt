use Rattle.zone_marks.proofs.Cited.{◌-◌, length, IsStretch, place_at}
use Rattle.zone_marks.specs.declared.landmark.Tally.TheVariants as tally
use Rattle.zone_marks.proofs.largest.stretch_above.Given as goal

-- what is known goes up to a landmark, or to the zone's end
abbrev pub invariant-loop-index : goal.invariant-loop-index
invariant-loop-index l = IsStretch l.counting (tally.Known l.stretch) l.from (place_at l.index l.marks l.sound.part.bytes)
    l.sound.part.bytes

abbrev pub decreases-loop-index : goal.decreases-loop-index
decreases-loop-index l = length l.marks - l.index
