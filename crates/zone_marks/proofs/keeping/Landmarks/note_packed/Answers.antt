use Rattle.zone_marks.proofs.Cited.{subst, sym, zone_in, AreLaid}
use Rattle.zone_marks.proofs.keeping.Landmarks.note_packed.Goals as goal

pub lay_edges-next-requires-clause-laid : goal.lay_edges-next-requires-clause-laid
lay_edges-next-requires-clause-laid c =
    let zone = zone_in c.args.sound.now.part.bytes in
    subst (AreLaid c.next_at-from.result.index c.next_at-from.result.at zone) (sym c.deref_mut.ensures.value)
    (c.next_at-from.ensures.laid zone c.change.ensures.marks)
