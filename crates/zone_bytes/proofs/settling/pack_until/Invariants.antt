use Rattle.zone_bytes.proofs.Cited.{◌-◌, ◌+◌, List, Block, sizes, movers, KeepsPlace, Noted, Packing}
use Rattle.zone_bytes.proofs.settling.pack_until.Given as goal

abbrev pub invariant-loop-from : goal.invariant-loop-from
invariant-loop-from g l =
    (gone : List Block) × Packing g.lay l.fn.gap l.from l.to l.moves l.part.bytes gone
    × KeepsPlace l.fn.part l.part × Noted l.fn.edges l.edges (l.fn.place + l.fn.gap) (movers gone)

abbrev pub decreases-loop-from : goal.decreases-loop-from
decreases-loop-from g l = l.fn.place + sizes g.lay.run - l.from

abbrev pub ghost-lead_packed : goal.ghost-lead_packed
ghost-lead_packed g a = g.lay
