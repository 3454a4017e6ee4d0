use Rattle.res_calls.proofs.Cited.{view}
use Rattle.res_calls.proofs.OpeningForks.{launch_refused}
use Rattle.res_calls.proofs.Soundness.Methods.{launched_in}
use Rattle.res_calls.proofs.files.Resources.new.Goals as goal

pub returns-in-Err : goal.returns-in-Err
returns-in-Err c = launch_refused c.args.files.items c.index.result.now c.in-Err.refusal (view c.args.system.now)
    c.deref.result.now c.requires.own c.index.ensures c.deref.ensures.value c.in-Err.ensures

pub invariant_of-result : goal.invariant_of-result
invariant_of-result c = launched_in c.args.files.items c.in_ok-chain.chain.items c.deref.result.now c.in-Ok.own
    c.in_ok-system.system c.requires.own c.in-Ok.ensures c.in_ok-chain.ensures
