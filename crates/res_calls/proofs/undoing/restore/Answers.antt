use Rattle.res_calls.proofs.Cited.{rules}
use Rattle.res_calls.proofs.PuttingBack.{put_here, put_past}
use Rattle.res_calls.proofs.undoing.restore.Goals as goal

pub returns-then-replaced-len : goal.returns-then-replaced-len
returns-then-replaced-len c =
    put_here c.args.replaced.fork.items c.args.replaced.written c.args.files.now.items c.args.replaced.place
    c.index_mut.result.now c.give_back.new.file (search rules) c.index_mut.ensures.value c.give_back.ensures

pub returns-else-replaced-len : goal.returns-else-replaced-len
returns-else-replaced-len c =
    put_past c.args.replaced.fork.items c.args.replaced.written c.args.files.now.items c.args.replaced.place
    (search rules)
