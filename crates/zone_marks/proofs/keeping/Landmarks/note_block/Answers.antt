use Rattle.zone_marks.proofs.Cited.{arith, rules, became-fits, became-inside, became-left, became-way}
use Rattle.zone_marks.proofs.Marks.Keeping.{became-replaced}
use Rattle.zone_marks.proofs.keeping.Landmarks.note_block.Goals as goal

pub size_at-size-requires-clause-way : goal.size_at-size-requires-clause-way
size_at-size-requires-clause-way c = search (rules, became-way)

pub size_at-size-requires-clause-some : goal.size_at-size-requires-clause-some
size_at-size-requires-clause-some c = search (rules, became-inside)

pub overflow_add-place : goal.overflow_add-place
overflow_add-place c =
    let i = c.args.sound.now.sound in
    let b = c.requires.1 in
    omega (
      arith,
      became-fits _ _ _ i c.args.place c.requires.0 b,
      (c.size_at-size.ensures b.there b.above (became-left _ _ _ i _ _ b)),
    )

pub note-requires : goal.note-requires
note-requires c =
    let b = c.requires.1 in
    let s = c.size_at-size.ensures b.there b.above (became-left _ _ _ c.args.sound.now.sound _ _ b) in search
    (rules, became-replaced)
