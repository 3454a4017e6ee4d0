use Rattle.fork_wrappers.proofs.Cited.{◌≡◌, IfOk, IfErr, sym, subst, placed, rewrapped, Refuses}
use Rattle.std.proofs.Common.{Ok}
use Rattle.fork_wrappers.proofs.Rewraps.{found_header, is_placed}
use Rattle.fork_wrappers.proofs.rewrapping.rewrapped_of.Goals.{In-Ok}
use Rattle.fork_wrappers.proofs.rewrapping.rewrapped_of.Goals as goal

-- what is to be made once a fork is found
found : (c : In-Ok) → rewrapped c.args.file.now c.args.fork.now
    ≡ placed c.in-Ok.found.wrapping c.in-Ok.found.fork.now c.args.file.now c.args.fork.now
found c = is_placed c.in-Ok.found.wrapping c.args.file.now c.args.fork.now c.in-Ok.found.fork.now
    c.in-Ok.ensures.wrapping c.in-Ok.ensures.fork

pub placed_of-requires-clause-header : goal.placed_of-requires-clause-header
placed_of-requires-clause-header c = found_header c.in-Ok.found.wrapping c.args.file.now c.in-Ok.ensures.wrapping

pub returns-in-Ok-clause-made : goal.returns-in-Ok-clause-made
returns-in-Ok-clause-made c =
    let f = found (goal.at.returns-in-Ok-clause-made c).In-Ok in
    subst (λ o. IfOk c.placed_of.result (λ new. o ≡ Ok new.items)) (sym f) c.placed_of.ensures.made

pub returns-in-Ok-clause-fault : goal.returns-in-Ok-clause-fault
returns-in-Ok-clause-fault c =
    let f = found (goal.at.returns-in-Ok-clause-fault c).In-Ok in
    subst (λ o. IfErr c.placed_of.result (λ why. Refuses why o)) (sym f) c.placed_of.ensures.fault
