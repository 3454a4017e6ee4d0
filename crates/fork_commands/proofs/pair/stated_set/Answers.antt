use Rattle.fork_commands.proofs.Cited.{rules, view, view_ref}
use Rattle.fork_commands.proofs.Pairs.{stated_made, stated_stopped}
use Rattle.fork_commands.proofs.pair.stated_set.Goals as goal

pub returns-in-Ok-clause-made : goal.returns-in-Ok-clause-made
returns-in-Ok-clause-made c = stated_made c.args.setting.now c.args.packaging c.args.first.now c.in-Ok.out.items
    (view_ref c.args.stated.now) (view c.args.content) (view c.change_stated.new.content) (search rules) c.in-Ok.ensures.made

pub returns-clause-fault : goal.returns-clause-fault
returns-clause-fault c = stated_stopped c.args.setting.now c.args.packaging c.args.first.now (view_ref c.args.stated.now)
    (view c.args.content) (view c.change_stated.new.content) c.in-Err.fault c.at.result (search rules) c.at.ensures
    c.in-Err.ensures.fault
