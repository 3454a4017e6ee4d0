use Rattle.heap_calls.proofs.Cited.{refl, sym, arith, Ok, look_up, state_of, pointed_at, block_named}
use Rattle.heap_calls.proofs.Numbering.Pointing.{pointer-held, sparing-pointer, sparing-other, finds-same}
use Rattle.heap_calls.proofs.Numbering.Pointing.{finds-pointer}
use Rattle.heap_calls.proofs.Numbering.Answering.{finds-block}
use Rattle.heap_calls.proofs.pointers.find_named.Goals as goal

pub returns-in-Ok : goal.returns-in-Ok
returns-in-Ok g c =
    let zone = g.S.BlockStore.zone c.args.store.now in
    let rest = g.S.BlockStore.rest c.args.store.now in
    let es = c.args.names.now in
    let t = c.in-Ok.target in
    let state = state_of zone rest.slots es in
    let there = pointer-held zone rest es es c.args.name t c.requires (g.met.S.BlockStore.placed c.args.store.now)
    (g.met.S.BlockStore.tidied c.args.store.now) (omega arith) refl c.in-Ok.ensures in
    finds-same (pointed_at c.args.name state) (block_named c.args.name state) zone es (Ok t.place)
    (sparing-pointer zone rest.slots es c.args.name t (sym c.in-Ok.ensures))
    (finds-pointer zone rest.slots es c.args.name t (g.met.S.BlockStore.small c.args.store.now) there)

pub returns-in-Err : goal.returns-in-Err
returns-in-Err g c =
    let zone = g.S.BlockStore.zone c.args.store.now in
    let slots = (g.S.BlockStore.rest c.args.store.now).slots in
    let es = c.args.names.now in
    let state = state_of zone slots es in
    finds-same (look_up c.args.name state) (block_named c.args.name state) zone es c.find_block.result
    (sparing-other zone slots es c.args.name _ (sym c.in-Err.ensures))
    (finds-block zone slots es c.args.name c.find_block.result c.find_block.ensures)
