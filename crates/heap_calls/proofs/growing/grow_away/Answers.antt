use Rattle.heap_calls.proofs.Cited.{on_ok_weaker, Some, sym, ◌∙◌, ap, is_relocatable, counted, spot, grown}
use Rattle.heap_calls.proofs.Sizes.Carrying.{away-room, away-block, away-done}
use Rattle.heap_calls.proofs.Sizes.Steady.{nonrelocatable-carried}
use Rattle.heap_calls.proofs.Room.MoveCounts.{away-moves}
use Rattle.heap_calls.proofs.Numbering.Changing.{may_place}
use Rattle.heap_calls.proofs.Same.Growing.{grown-named}
use Rattle.heap_calls.proofs.growing.grow_away.Goals as goal

pub move_to-requires-clause-room : goal.move_to-requires-clause-room
move_to-requires-clause-room g c =
    let packed = c.pack_placement-place in
    away-room c.args.number c.args.size c.args.bytes (g.S.BlockStore.zone c.args.store.now)
    (g.S.BlockStore.zone packed.new.store) packed.result (Some c.args.placement) c.requires.takes c.requires.found
    packed.ensures.place packed.ensures.blocks

pub move_to-requires-clause-block : goal.move_to-requires-clause-block
move_to-requires-clause-block g c =
    let packed = c.pack_placement-place in
    away-block c.args.number c.args.size c.args.bytes (g.S.BlockStore.zone c.args.store.now)
    (g.S.BlockStore.zone packed.new.store) packed.result (Some c.args.placement) c.requires.takes c.requires.found
    packed.ensures.place packed.ensures.blocks

pub returns-clause-ok : goal.returns-clause-ok
returns-clause-ok g c =
    let packed = c.pack_placement-place in
    on_ok_weaker c.move_to.result
    (away-done c.args.number c.args.size c.args.bytes (g.S.BlockStore.zone c.args.store.now)
    (g.S.BlockStore.zone packed.new.store) packed.result (Some c.args.placement) c.requires.takes c.requires.found
    packed.ensures.place packed.ensures.blocks (g.S.BlockStore.zone c.move_to.new.self))
    c.move_to.ensures.ok

pub returns-clause-nonrelocatable : goal.returns-clause-nonrelocatable
returns-clause-nonrelocatable g c =
    let packed = c.pack_placement-place in
    nonrelocatable-carried c.move_to.result c.args.number c.args.size (g.S.BlockStore.zone c.args.store.now)
    (g.S.BlockStore.zone packed.new.store) (g.S.BlockStore.zone c.move_to.new.self) (returns-clause-ok g c)
    packed.ensures.nonrelocatable c.move_to.ensures.err

pub returns-clause-moves : goal.returns-clause-moves
returns-clause-moves g c =
    let zone = g.S.BlockStore.zone c.args.store.now in
    let rest = g.S.BlockStore.rest c.args.store.now in
    let t = is_relocatable c.args.number in
    let placed = may_place c.move_to.result 1 (g.S.BlockStore.rest c.pack_placement-place.new.store)
    (g.S.BlockStore.rest c.move_to.new.self) c.move_to.ensures.rest c.move_to.ensures.same in
    placed.moves ∙ c.pack_placement-place.ensures.moves
    ∙ ap (counted rest.moves) (sym (away-moves t (grown c.args.size (spot t zone)) zone
    (grown-named c.args.number c.args.size zone c.requires.found.0 c.requires.found.1) c.args.bytes c.args.placement
    c.requires.takes c.requires.positive c.requires.found))
