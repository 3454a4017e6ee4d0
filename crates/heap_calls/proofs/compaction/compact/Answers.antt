use Rattle.heap_calls.proofs.Cited.{◌≡◌, false, rules, has_room}
use Rattle.heap_calls.proofs.Room.SettlingRuns.{IsCompacted, packed}
use Rattle.heap_calls.proofs.compaction.compact.Given.{Over}
use Rattle.heap_calls.proofs.compaction.compact.Goals.{In-Some}
use Rattle.heap_calls.proofs.compaction.compact.Goals as goal

-- no block moves
still : (g : Over) (c : In-Some g) → IsCompacted c.args.bytes (g.S.BlockStore.zone c.args.store.now)
    (g.S.BlockStore.rest c.args.store.now) (g.S.BlockStore.zone c.args.store.now)
    (g.S.BlockStore.rest c.args.store.now) c.in-Some.stretches
still g c =
    let store = c.args.store.now in
    let full : has_room c.args.bytes (g.S.BlockStore.zone store) ≡ false = search rules in
    packed c.args.bytes (g.S.BlockStore.zone store) (g.S.BlockStore.rest store) c.in-Some.stretches
    (g.met.S.BlockStore.tidied store) full c.in-Some.ensures

pub returns-in-Some-clause-zone : goal.returns-in-Some-clause-zone
returns-in-Some-clause-zone g c = (still g c).zone_is

pub returns-in-Some-clause-moves : goal.returns-in-Some-clause-moves
returns-in-Some-clause-moves g c = (still g c).moves

pub returns-in-Some-clause-runs : goal.returns-in-Some-clause-runs
returns-in-Some-clause-runs g c = (still g c).count
