use Rattle.heap_calls.proofs.Cited.{is_relocatable, spot, grown}
use Rattle.heap_calls.proofs.Sizes.Growth.{up-found, away-found, last-found, none-found}
use Rattle.heap_calls.proofs.growing.growth_now.Goals as goal

pub returns-then-room_above : goal.returns-then-room_above
returns-then-room_above g c =
    let zone = g.S.BlockStore.zone c.args.store.now in
    let test = is_relocatable c.args.number in
    up-found test (grown c.args.size (spot test zone)) zone c.args.more c.room_above.result c.requires.more
    c.room_above.ensures
    c.if-room_above.true

pub returns-in-Some : goal.returns-in-Some
returns-in-Some g c =
    let zone = g.S.BlockStore.zone c.args.store.now in
    let test = is_relocatable c.args.number in
    away-found test (grown c.args.size (spot test zone)) zone c.args.more c.room_above.result c.requires.more
    c.room_above.ensures
    c.args.bytes c.in-Some.placement c.requires.takes c.if-room_above.false c.in-Some.ensures

pub returns-in_default-run_of : goal.returns-in_default-run_of
returns-in_default-run_of g c =
    let zone = g.S.BlockStore.zone c.args.store.now in
    let test = is_relocatable c.args.number in
    none-found test (grown c.args.size (spot test zone)) zone c.args.more c.room_above.result c.requires.more
    c.room_above.ensures c.args.bytes c.requires.takes
    c.if-room_above.false c.in_default.ensures c.in_default-run_of.ensures

pub returns : goal.returns
returns g c =
    let zone = g.S.BlockStore.zone c.args.store.now in
    let test = is_relocatable c.args.number in
    last-found test (grown c.args.size (spot test zone)) zone c.args.more c.room_above.result c.requires.more
    c.room_above.ensures c.args.bytes c.in-Some-run_of.run'
    c.requires.takes c.if-room_above.false c.in_default.ensures
    c.in-Some-run_of.ensures
