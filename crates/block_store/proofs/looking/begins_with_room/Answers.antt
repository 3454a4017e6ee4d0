use Rattle.block_store.proofs.Cited.{◌∙◌, sym, ap, is_some, taken}
use Rattle.block_store.proofs.Purged.Looks.{taken-room}
use Rattle.block_store.proofs.Walks.Telling.{told}
use Rattle.block_store.proofs.looking.begins_with_room.Goals as goal

pub returns : goal.returns
returns g c =
    let t = told (g.W.Walk.rest c.args.walk.now) (g.W.Walk.rest c.next_block.new.self) c.next_block.result
    c.in-Some.next c.next_block.ensures c.in-Some.is in
    c.has_room.ensures t.block t.is ∙ sym (ap (λ l. is_some (taken c.args.bytes l)) t.before_is
    ∙ taken-room c.args.bytes t.block (g.W.Walk.rest c.next_block.new.self))
