use Rattle.fork_wrappers.proofs.Cited.{arith}
use Rattle.fork_wrappers.proofs.Rewraps.{wrapped_alike, found_rewrapped}
use Rattle.fork_wrappers.proofs.rewrapping.rewrap.Goals as goal
use Rattle.fork_wrappers.proofs.HeldBytes.{held_bytes}

pub returns-in-Ok-clause-wrapping : goal.returns-in-Ok-clause-wrapping
returns-in-Ok-clause-wrapping c =
    wrapped_alike c.args.file.now c.args.fork.now c.in-Ok.new.items c.in-Ok.ensures.made

pub returns-in-Ok-clause-found : goal.returns-in-Ok-clause-found
returns-in-Ok-clause-found c = found_rewrapped c.args.file.now c.args.fork.now c.in-Ok.new.items
    (held_bytes c.args.file.now (λ i. omega (arith, c.type_inv.file i))) c.in-Ok.ensures.made
