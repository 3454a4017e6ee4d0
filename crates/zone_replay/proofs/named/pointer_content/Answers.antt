use Rattle.zone_replay.proofs.Cited.{Some, pointer_barred}
use Rattle.zone_replay.proofs.Pointed.{shown-unless}
use Rattle.zone_replay.proofs.named.pointer_content.Goals as goal

pub returns-in-Ok : goal.returns-in-Ok
returns-in-Ok g c =
    shown-unless (pointer_barred (Some c.args.number) c.args.heap.now.memory) c.args.number c.args.heap.now.memory _ _ c.in-Ok.ensures

pub returns-in-Err : goal.returns-in-Err
returns-in-Err g c =
    shown-unless (pointer_barred (Some c.args.number) c.args.heap.now.memory) c.args.number c.args.heap.now.memory _ _ c.in-Err.ensures
