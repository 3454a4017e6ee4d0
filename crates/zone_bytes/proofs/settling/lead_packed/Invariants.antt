use Rattle.zone_bytes.proofs.Cited.{◌-◌, ◌+◌, List, Block, sizes, movers, KeepsPlace, Noted, Packing}
use Rattle.zone_bytes.proofs.settling.lead_packed.Given as goal

abbrev pub invariant-loop-at : goal.invariant-loop-at
invariant-loop-at g l =
    (gone : List Block) × Packing g.lay l.fn.gap l.at l.at 0 l.part.bytes gone
    × KeepsPlace l.initial.part l.part × Noted l.initial.edges l.edges (l.fn.place + l.fn.gap) (movers gone)

abbrev pub decreases-loop-at : goal.decreases-loop-at
decreases-loop-at g l = l.fn.place + sizes g.lay.run - l.at
