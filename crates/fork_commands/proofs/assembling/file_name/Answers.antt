use Rattle.fork_commands.proofs.Cited.{string_bytes}
use Rattle.fork_commands.proofs.Pairs.{also_ok}
use Rattle.fork_commands.proofs.Sources.{name_as_it_is, name_from_roman}
use Rattle.fork_commands.proofs.assembling.file_name.Goals as goal

pub returns-in-Ok : goal.returns-in-Ok
returns-in-Ok c = also_ok _ _ c.from_str.result (λ text is. name_as_it_is c.args.name.now c.in-Ok.text.now (string_bytes text)
    c.in-Ok.ensures.cases.0 c.in-Ok.ensures.cases.1 is) c.from_str.ensures.ok

pub returns-in-Err : goal.returns-in-Err
returns-in-Err c = also_ok _ _ c.from_roman.result (λ text is. name_from_roman c.args.name.now (string_bytes text)
    c.in-Err.ensures.cases.0 is) c.from_roman.ensures
