use Rattle.zone_bytes.proofs.Cited.{arith, subst, HasMasters}
use Rattle.zone_bytes.proofs.Placed.Carved.{Roomy, roomy}
use Rattle.zone_bytes.proofs.Placed.MastersCarved.{masters-lays}
use Rattle.zone_bytes.proofs.SlotTable.Slotted.{first-small}
use Rattle.zone_bytes.proofs.mastering.add_masters.Goals as goal
use Rattle.zone_bytes.proofs.mastering.add_masters.Goals.{Start}

-- the Free block at the place
here : (c : Start) → Roomy c.args.part.now.bytes c.args.place 272
here c = roomy _ _ _ _ _ c.requires.sound.1 c.requires.room

pub size_at-size-requires : goal.size_at-size-requires
size_at-size-requires c =
    let r = here (goal.at.size_at-size-requires c).Start in record { way = r.at.way; some = omega arith }

pub lay_masters-requires : goal.lay_masters-requires
lay_masters-requires c =
    let r = here (goal.at.lay_masters-requires c).Start in
    let n = c.size_at-size.ensures r.s.here r.s.above r.at.left in
    let i = c.requires.sound.1 in
    let f = first-small i.lays i.unused i.lays.unused_slots in
    grind arith

pub returns-clause-lays : goal.returns-clause-lays
returns-clause-lays c = λ unused i.
    let r = here (goal.at.returns-clause-lays c).Start in
    rw r.is (masters-lays _ _ r _ _ i _ (subst (λ n. HasMasters c.args.place n c.args.first c.args.part.now.bytes
    c.lay_masters.new.part.bytes) (c.size_at-size.ensures r.s.here r.s.above r.at.left) c.lay_masters.ensures.masters))
