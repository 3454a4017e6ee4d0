use Rattle.heap_calls.proofs.Cited.{refl, sym, ◌∙◌, ap, is_room, has_room, room-found}
use Rattle.heap_calls.proofs.compaction.has_room.Goals as goal

pub returns-in-Some : goal.returns-in-Some
returns-in-Some g c =
    let zone = g.S.BlockStore.zone c.args.store.now in
    c.is_some.ensures ∙ room-found (is_room c.in-Some.bytes) zone zone c.find_free.result refl c.find_free.ensures
    ∙ ap (λ o. has_room o zone) (sym c.in-Some.is)
