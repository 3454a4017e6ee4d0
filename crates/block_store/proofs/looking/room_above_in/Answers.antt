use Rattle.block_store.proofs.Cited.{◌∙◌, sym, ap, is_relocatable}
use Rattle.block_store.proofs.Purged.Looks.{above_spot, above_spot-here, follows-none, follows-some}
use Rattle.block_store.proofs.Walks.Telling.{told, told-none}
use Rattle.block_store.proofs.looking.room_above_in.Goals as goal

pub returns-then-is_of : goal.returns-then-is_of
returns-then-is_of g c =
    let t = told (g.W.Walk.rest c.loop-block.walk) (g.W.Walk.rest c.next_block.new.self) c.next_block.result
    c.in-Some.block c.next_block.ensures c.in-Some.is in
    follows-some (is_relocatable c.args.number) (g.W.Walk.rest c.args.walk.now) (g.W.Walk.rest c.next_block.new.self)
    c.args.bytes c.begins_with_room.result
    (sym c.loop-block.invariant.above ∙ ap (above_spot (is_relocatable c.args.number)) t.before_is
    ∙ above_spot-here (is_relocatable c.args.number) t.block (g.W.Walk.rest c.next_block.new.self)
    (sym (c.is_of.ensures t.block t.is) ∙ c.if-is_of.true)) c.begins_with_room.ensures

pub returns : goal.returns
returns g c =
    follows-none (is_relocatable c.args.number) (g.W.Walk.rest c.args.walk.now) _
    (sym c.loop-block.invariant.above ∙ ap (above_spot (is_relocatable c.args.number))
    (told-none (g.W.Walk.rest c.loop-block.walk) (g.W.Walk.rest c.next_block.new.self) c.next_block.result
    c.next_block.ensures c.in_default.is))
