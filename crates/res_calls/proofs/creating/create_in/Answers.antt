use Rattle.res_calls.proofs.NewFiles.{named_found}
use Rattle.res_calls.proofs.creating.create_in.Goals as goal

pub returns-in-Some-clause-answer : goal.returns-in-Some-clause-answer
returns-in-Some-clause-answer c = λ r m. named_found c.args.name.now.0.items c.in-Some.at r m c.args.files.now.items
    c.renew_file.new.files.items c.renew_file.result (rw c.deref.ensures.value at c.in-Some.ensures.found)
    (λ f at. c.renew_file.ensures.answer c.args.name.now.0.items f r m at)
