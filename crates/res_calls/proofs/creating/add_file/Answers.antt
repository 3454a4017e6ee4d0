use Rattle.res_calls.proofs.Cited.{rules}
use Rattle.res_calls.proofs.NewFiles.{one_more}
use Rattle.res_calls.proofs.creating.add_file.Goals as goal

pub returns-clause-answer : goal.returns-clause-answer
returns-clause-answer c = λ r m. one_more c.args.name.now.0.items c.in_ok-empty_fork.field-0.items r m
    c.args.files.now.items c.push_file.new.files.items (search rules) c.in_ok-empty_fork.ensures
    (rw c.in_ok-own_name.ensures at c.in_ok-push_file.ensures.done)
