use Rattle.res_calls.proofs.WritingAnew.{anew_written, anew_refused}
use Rattle.res_calls.proofs.updating.make_anew.Goals as goal

pub returns-in-Ok : goal.returns-in-Ok
returns-in-Ok g c = (
  c.in_ok-stored.ensures,
  anew_written c.args.heap.now.memory.heap c.args.file.now c.deref.result.now c.in_ok-stored.stored.items c.in-Ok.fork
      c.deref.ensures.value c.in_ok-stored.ensures c.in-Ok.ensures,
)

pub returns-in-Err : goal.returns-in-Err
returns-in-Err g c = anew_refused c.args.heap.now.memory.heap c.args.file.now c.deref.result.now
    c.in_ok-stored.stored.items
    c.in-Err.refusal c.deref.ensures.value c.in_ok-stored.ensures c.in-Err.ensures
