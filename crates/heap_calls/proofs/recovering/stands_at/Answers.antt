use Rattle.heap_calls.proofs.Cited.{sym, ap, Some, stands_at}
use Rattle.heap_calls.proofs.Recovered.{stands-found}
use Rattle.heap_calls.proofs.recovering.stands_at.Goals as goal

pub returns-in-Ok : goal.returns-in-Ok
returns-in-Ok g c =
    stands-found c.args.place c.in-Ok.found (g.S.BlockStore.zone c.args.store.now)
    (g.S.BlockStore.rest c.args.store.now).slots c.args.names.now (Some c.args.handle) c.in-Ok.ensures

pub returns-in-Err : goal.returns-in-Err
returns-in-Err g c = ap (stands_at c.args.place) (sym c.in-Err.ensures)
