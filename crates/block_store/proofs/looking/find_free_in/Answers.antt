use Rattle.block_store.proofs.Cited.{◌∙◌, Some, None, sym, ap, is_room}
use Rattle.block_store.proofs.Zone.Apart.{apart-tidied}
use Rattle.block_store.proofs.Zone.Listing.{spot-here}
use Rattle.block_store.proofs.Zone.Spots.{finds}
use Rattle.block_store.proofs.Purged.Looks.{place_from}
use Rattle.block_store.proofs.Walks.Telling.{ReadBlock, told, told-none}
use Rattle.block_store.proofs.looking.find_free_in.Given.{Over}
use Rattle.block_store.proofs.looking.find_free_in.Goals.{In-Some}
use Rattle.block_store.proofs.looking.find_free_in.Goals as goal

here : (g : Over) (c : In-Some g)
    → ReadBlock (g.W.Walk.rest c.loop-block.walk) c.in-Some.block (g.W.Walk.rest c.next_block.new.self)
here g c = told (g.W.Walk.rest c.loop-block.walk) (g.W.Walk.rest c.next_block.new.self) c.next_block.result
    c.in-Some.block c.next_block.ensures c.in-Some.is

pub returns-then-has_room : goal.returns-then-has_room
returns-then-has_room g c =
    let t = here g (goal.at.returns-then-has_room g c).In-Some in
    let zone = g.W.Walk.rest c.args.walk.now in
    finds (is_room c.args.bytes) zone (Some c.loop-block.below) (apart-tidied zone c.requires.apart)
    (sym (spot-here (is_room c.args.bytes) c.loop-block.below t.block (g.W.Walk.rest c.next_block.new.self)
    (sym (c.has_room.ensures t.block t.is) ∙ c.if-has_room.true))
    ∙ ap (place_from c.loop-block.below (is_room c.args.bytes)) (sym t.before_is)
    ∙ c.loop-block.invariant.above)

pub returns : goal.returns
returns g c =
    let zone = g.W.Walk.rest c.args.walk.now in
    finds (is_room c.args.bytes) zone None (apart-tidied zone c.requires.apart)
    (sym (ap (place_from c.loop-block.below (is_room c.args.bytes)) (told-none (g.W.Walk.rest c.loop-block.walk)
    (g.W.Walk.rest c.next_block.new.self) c.next_block.result c.next_block.ensures c.in_default.is))
    ∙ c.loop-block.invariant.above)
