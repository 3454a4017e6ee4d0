use Rattle.zone_bytes.proofs.Cited.{◌+◌, ap, arith, refl, padded, size}
use Rattle.zone_bytes.proofs.Placed.Carved.{Roomy, roomy, may-carve, nonrelocatable-lays}
use Rattle.zone_bytes.proofs.placing.carve_nonrelocatable.Goals as goal
use Rattle.zone_bytes.proofs.placing.carve_nonrelocatable.Goals.{Start}

-- the Free block at the place
here : (c : Start) → Roomy c.args.part.now.bytes c.args.place (padded c.args.size)
here c = roomy _ _ _ _ _ c.requires.sound.2 c.requires.room

pub size_at-requires : goal.size_at-requires
size_at-requires c = let r = here (goal.at.size_at-requires c).Start in record { way = r.at.way; some = omega arith }

pub overflow_add-top : goal.overflow_add-top
overflow_add-top c = let r = here (goal.at.overflow_add-top c).Start in
    omega (arith, c.size_at.ensures r.s.here r.s.above r.at.left)

pub padded_size-requires : goal.padded_size-requires
padded_size-requires c = let r = here (goal.at.padded_size-requires c).Start in omega (arith, ap size r.here)

pub lay_block-requires : goal.lay_block-requires
lay_block-requires c =
    let r = here (goal.at.lay_block-requires c).Start in
    may-carve _ _ _ _ r (grind arith) _ c.padded_size.ensures refl

pub returns-clause-lays : goal.returns-clause-lays
returns-clause-lays c = λ first unused i.
    let r = here (goal.at.returns-clause-lays c).Start in
    rw (c.lay_block.ensures.bytes, r.is) (nonrelocatable-lays _ _ _ _ _ r
    (ap (λ k. c.args.place + k) (c.size_at.ensures r.s.here r.s.above r.at.left)) c.padded_size.ensures _ _ i)
