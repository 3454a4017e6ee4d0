use Rattle.block_store.proofs.Cited.{◌∙◌, Some, None, sym, ap, is_relocatable}
use Rattle.block_store.proofs.Zone.Apart.{apart-tidied}
use Rattle.block_store.proofs.Zone.Listing.{spot-here}
use Rattle.block_store.proofs.Zone.Spots.{finds}
use Rattle.block_store.proofs.Purged.Looks.{place_from}
use Rattle.block_store.proofs.Walks.Telling.{ReadBlock, told, told-none}
use Rattle.block_store.proofs.looking.place_in.Given.{Over}
use Rattle.block_store.proofs.looking.place_in.Goals.{In-Some}
use Rattle.block_store.proofs.looking.place_in.Goals as goal

here : (g : Over) (c : In-Some g)
    → ReadBlock (g.W.Walk.rest c.loop-block.walk) c.in-Some.block (g.W.Walk.rest c.next_block.new.self)
here g c = told (g.W.Walk.rest c.loop-block.walk) (g.W.Walk.rest c.next_block.new.self) c.next_block.result
    c.in-Some.block c.next_block.ensures c.in-Some.is

pub returns-then-is_of : goal.returns-then-is_of
returns-then-is_of g c =
    let t = here g (goal.at.returns-then-is_of g c).In-Some in
    let zone = g.W.Walk.rest c.args.walk.now in
    finds (is_relocatable c.args.number) zone (Some c.loop-block.below) (apart-tidied zone c.requires.apart)
    (sym (spot-here (is_relocatable c.args.number) c.loop-block.below t.block (g.W.Walk.rest c.next_block.new.self)
    (sym (c.is_of.ensures t.block t.is) ∙ c.if-is_of.true))
    ∙ ap (place_from c.loop-block.below (is_relocatable c.args.number)) (sym t.before_is)
    ∙ c.loop-block.invariant.above)

pub returns : goal.returns
returns g c =
    let zone = g.W.Walk.rest c.args.walk.now in
    finds (is_relocatable c.args.number) zone None (apart-tidied zone c.requires.apart)
    (sym (ap (place_from c.loop-block.below (is_relocatable c.args.number)) (told-none (g.W.Walk.rest c.loop-block.walk)
    (g.W.Walk.rest c.next_block.new.self) c.next_block.result c.next_block.ensures c.in_default.is))
    ∙ c.loop-block.invariant.above)
