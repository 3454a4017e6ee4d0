use Rattle.script_text.proofs.Cited.{arith}
use Rattle.script_text.proofs.JobKnown.{file_there, file_past}
use Rattle.script_text.proofs.owners.add_file.Goals as goal

pub returns-in_ok-add-clause-added : goal.returns-in_ok-add-clause-added
returns-in_ok-add-clause-added c =
    file_there c.args.number c.args.name.now.0.items c.args.owners.now.items c.index_mut.result.now c.add.new.self
    c.index_mut.ensures.value c.in_ok-add.ensures.added

pub returns-else-number-len-clause-added : goal.returns-else-number-len-clause-added
returns-else-number-len-clause-added c =
    file_past c.args.number c.args.name.now.0.items c.args.owners.now.items (omega arith)
