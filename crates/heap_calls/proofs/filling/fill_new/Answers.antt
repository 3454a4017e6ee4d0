use Rattle.heap_calls.proofs.Cited.{◌≡◌, length, used-some, fresh_block}
use Rattle.heap_calls.proofs.Filled.Replaced.{may-flag, is-replaced, nonrelocatable-replaced}
use Rattle.heap_calls.proofs.filling.fill_new.Goals as goal

pub place_of-requires : goal.place_of-requires
place_of-requires g c =
    let store = c.args.store.now in
    used-some (g.S.BlockStore.rest store).slots (g.S.BlockStore.zone store) c.args.slot
    (λ s. s.here ≡ fresh_block c.args.slot (length c.args.bytes.now)) (g.met.S.BlockStore.no_block store c.args.slot)
    c.requires

pub set_flags-requires : goal.set_flags-requires
set_flags-requires g c =
    may-flag c.args.slot c.in-Some.place c.args.flags c.args.bytes.now (g.S.BlockStore.zone c.args.store.now)
    (g.S.BlockStore.zone c.write.new.self) c.requires c.in-Some.ensures c.write.ensures.zone

pub returns-clause-zone : goal.returns-clause-zone
returns-clause-zone g c =
    is-replaced c.args.slot c.in-Some.place c.args.flags c.args.bytes.now (g.S.BlockStore.zone c.args.store.now)
    (g.S.BlockStore.zone c.write.new.self) c.requires c.in-Some.ensures c.write.ensures.zone
    (g.S.BlockStore.zone c.set_flags.new.self) c.set_flags.ensures.zone

pub returns-clause-nonrelocatable : goal.returns-clause-nonrelocatable
returns-clause-nonrelocatable g c =
    nonrelocatable-replaced c.args.slot c.in-Some.place c.args.flags c.args.bytes.now (g.S.BlockStore.zone c.args.store.now)
    (g.S.BlockStore.zone c.write.new.self) c.requires c.in-Some.ensures c.write.ensures.zone
    (g.S.BlockStore.zone c.set_flags.new.self) c.set_flags.ensures.zone
