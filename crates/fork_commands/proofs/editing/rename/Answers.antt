use Rattle.fork_commands.proofs.Cited.{◌≡◌, Some, rules, big_number, view, refusal, view_renaming}
use Rattle.fork_commands.proofs.Edits.{renamed_there, renamed_not}
use Rattle.fork_commands.proofs.editing.rename.Goals as goal

pub returns-in-Ok-clause-made : goal.returns-in-Ok-clause-made
returns-in-Ok-clause-made c =
    let gets = view_renaming c.lent-gets.result in
    renamed_there c.args.key c.args.new.now gets (view c.args.content.now) (view c.rename_resource.new.content)
    c.lent-gets.ensures (search rules) (search rules)

pub returns-in-Err-clause-fault : goal.returns-in-Err-clause-fault
returns-in-Err-clause-fault c =
    let gets = view_renaming c.lent-gets.result in
    let why : refusal (big_number 4 c.args.key.ty.0) c.args.key.id gets (view c.args.content.now) ≡ Some c.in-Err.fault =
    search rules in
    renamed_not c.args.key c.args.new.now gets (view c.args.content.now) c.in-Err.fault c.of_rename.result c.lent-gets.ensures why
    c.of_rename.ensures
