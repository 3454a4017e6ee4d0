use Rattle.res_calls.proofs.Cited.{sym, ◌∙◌}
use Rattle.res_calls.proofs.NewFiles.{has_bytes, gets_fork}
use Rattle.res_calls.proofs.creating.renew_file.Goals as goal

pub returns-then-not-is_bare-clause-answer : goal.returns-then-not-is_bare-clause-answer
returns-then-not-is_bare-clause-answer c = λ name f r m at. has_bytes name f r m c.args.files.now.items c.args.at
    c.index.result.now c.requires c.index.ensures (sym c.is_bare.ensures ∙ c.if-not-is_bare.true) at

pub returns-clause-answer : goal.returns-clause-answer
returns-clause-answer c = λ name f r m at. gets_fork name f r m c.args.files.now.items c.put_fork.new.files.items
    c.args.at c.index.result.now c.in_ok-fork.fork.items c.requires c.index.ensures
    (sym c.is_bare.ensures ∙ c.if-not-is_bare.false) c.in_ok-fork.ensures c.put_fork.ensures.files at
