use Rattle.heap_calls.proofs.Cited.{◌+◌, sym, ◌∙◌, arith, run-edge}
use Rattle.heap_calls.proofs.Room.SettlingRuns.{Counts, IsCompacted, SettledTo, begins, few, one-more, goes-on, higher}
use Rattle.heap_calls.proofs.Room.SettlingRuns.{ends-there, ends-above}
use Rattle.heap_calls.proofs.compaction.settle_runs.Given.{Over}
use Rattle.heap_calls.proofs.compaction.settle_runs.Goals.{After-from-stretches, After-settle, After-loop-bytes, In_default}
use Rattle.heap_calls.proofs.compaction.settle_runs.Goals as goal

pub loop-bytes-init : goal.loop-bytes-init
loop-bytes-init g c = begins c.args.bytes (g.S.BlockStore.zone c.args.store.now) (g.S.BlockStore.rest c.args.store.now)

pub block_at-requires : goal.block_at-requires
block_at-requires g c = run-edge c.loop-bytes.invariant.k c.loop-bytes.run (g.S.BlockStore.zone c.loop-bytes.store)
    c.loop-bytes.invariant.found

-- what the run counts
counts : (g : Over) (c : After-from-stretches g) → Counts (g.S.BlockStore.zone c.loop-bytes.store) c.loop-bytes.run
    c.from-stretches.result
counts g c = record {
  there = c.block_at.result;
  begins = c.in_run.result;
  there_is = c.block_at.ensures;
  begins_is = c.in_run.ensures;
  as_number = c.from-stretches.ensures;
}

pub overflow_add-stretches : goal.overflow_add-stretches
overflow_add-stretches g c =
    let start = c.args.store.now in
    let store = c.loop-bytes.store in
    omega (
      arith,
      few c.args.bytes (g.S.BlockStore.zone start) (g.S.BlockStore.rest start) (g.S.BlockStore.zone store)
          (g.S.BlockStore.rest store) c.loop-bytes.run c.loop-bytes.stretches c.from-stretches.result
          (g.met.S.BlockStore.tidied store) c.loop-bytes.invariant
          (counts g (goal.at.overflow_add-stretches g c).After-from-stretches),
      g.met.S.BlockStore.small start,
    )

-- one run more is settled
more : (g : Over) (c : After-settle g) → SettledTo (c.loop-bytes.invariant.k + 1) c.args.bytes
    (g.S.BlockStore.zone c.args.store.now) (g.S.BlockStore.rest c.args.store.now)
    (g.S.BlockStore.zone c.settle.new.self) (g.S.BlockStore.rest c.settle.new.self)
    (c.loop-bytes.stretches + c.from-stretches.result)
more g c =
    let start = c.args.store.now in
    let store = c.loop-bytes.store in
    let after = c.settle.new.self in
    one-more c.args.bytes (g.S.BlockStore.zone start) (g.S.BlockStore.rest start) (g.S.BlockStore.zone store)
    (g.S.BlockStore.rest store) c.loop-bytes.run c.loop-bytes.stretches c.from-stretches.result
    (g.S.BlockStore.zone after) (g.S.BlockStore.rest after)
    (g.met.S.BlockStore.tidied start) (g.met.S.BlockStore.tidied store)
    (sym (c.has_room.ensures) ∙ c.loop-bytes-test.true) c.loop-bytes.invariant (counts g c.before.before)
    c.settle.ensures.zone c.settle.ensures.rest

-- all runs are settled
ended : (g : Over) (c : In_default g) → IsCompacted c.args.bytes (g.S.BlockStore.zone c.args.store.now)
    (g.S.BlockStore.rest c.args.store.now) (g.S.BlockStore.zone c.settle.new.self)
    (g.S.BlockStore.rest c.settle.new.self) (c.loop-bytes.stretches + c.from-stretches.result)
ended g c =
    let start = c.args.store.now in
    let store = c.loop-bytes.store in
    let after = c.settle.new.self in
    ends-above c.args.bytes (g.S.BlockStore.zone start) (g.S.BlockStore.rest start) (g.S.BlockStore.zone store)
    (g.S.BlockStore.rest store) c.loop-bytes.run c.loop-bytes.stretches
    (c.loop-bytes.stretches + c.from-stretches.result) (g.S.BlockStore.zone after) (g.S.BlockStore.rest after)
    c.loop-bytes.invariant (more g c.before) c.in_default.ensures

pub returns-in_default-clause-zone : goal.returns-in_default-clause-zone
returns-in_default-clause-zone g c = (ended g (goal.at.returns-in_default-clause-zone g c).In_default).zone_is

pub returns-in_default-clause-moves : goal.returns-in_default-clause-moves
returns-in_default-clause-moves g c = (ended g (goal.at.returns-in_default-clause-moves g c).In_default).moves

pub returns-in_default-clause-placed : goal.returns-in_default-clause-placed
returns-in_default-clause-placed g c = (ended g (goal.at.returns-in_default-clause-placed g c).In_default).placed

pub returns-in_default-clause-rest : goal.returns-in_default-clause-rest
returns-in_default-clause-rest g c = (ended g (goal.at.returns-in_default-clause-rest g c).In_default).keeps

pub returns-in_default-clause-runs : goal.returns-in_default-clause-runs
returns-in_default-clause-runs g c = (ended g (goal.at.returns-in_default-clause-runs g c).In_default).count

pub loop-bytes-smaller : goal.loop-bytes-smaller
loop-bytes-smaller g c =
    let start = c.args.store.now in
    let store = c.loop-bytes.store in
    let above = higher c.args.bytes (g.S.BlockStore.zone start) (g.S.BlockStore.rest start)
    (g.S.BlockStore.zone store) (g.S.BlockStore.rest store) c.loop-bytes.run c.loop-bytes.stretches c.in-Some.next
    c.loop-bytes.invariant c.in-Some.ensures in
    omega (arith, above.0, above.1)

pub loop-bytes-preserved : goal.loop-bytes-preserved
loop-bytes-preserved g c =
    let start = c.args.store.now in
    let store = c.loop-bytes.store in
    let after = c.settle.new.self in
    goes-on c.args.bytes (g.S.BlockStore.zone start) (g.S.BlockStore.rest start) (g.S.BlockStore.zone store)
    (g.S.BlockStore.rest store) c.loop-bytes.run c.loop-bytes.stretches c.in-Some.next
    (c.loop-bytes.stretches + c.from-stretches.result) (g.S.BlockStore.zone after) (g.S.BlockStore.rest after)
    c.loop-bytes.invariant (more g (goal.at.loop-bytes-preserved g c).After-settle) c.in-Some.ensures

-- there is room
served : (g : Over) (c : After-loop-bytes g) → IsCompacted c.args.bytes (g.S.BlockStore.zone c.args.store.now)
    (g.S.BlockStore.rest c.args.store.now) (g.S.BlockStore.zone c.loop-bytes.store)
    (g.S.BlockStore.rest c.loop-bytes.store) c.loop-bytes.stretches
served g c =
    let start = c.args.store.now in
    let store = c.loop-bytes.store in
    ends-there c.args.bytes (g.S.BlockStore.zone start) (g.S.BlockStore.rest start) (g.S.BlockStore.zone store)
    (g.S.BlockStore.rest store) c.loop-bytes.run c.loop-bytes.stretches c.loop-bytes.invariant
    (sym (c.has_room.ensures) ∙ c.loop-bytes-test.false)

pub returns-clause-zone : goal.returns-clause-zone
returns-clause-zone g c = (served g c).zone_is

pub returns-clause-moves : goal.returns-clause-moves
returns-clause-moves g c = (served g c).moves

pub returns-clause-placed : goal.returns-clause-placed
returns-clause-placed g c = (served g c).placed

pub returns-clause-rest : goal.returns-clause-rest
returns-clause-rest g c = (served g c).keeps

pub returns-clause-runs : goal.returns-clause-runs
returns-clause-runs g c = (served g c).count
