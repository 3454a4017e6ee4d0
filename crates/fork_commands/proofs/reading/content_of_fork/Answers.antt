use Rattle.fork_commands.proofs.Cited.{sym, ap, ◌∙◌, subst, view, of_code, Stops, content_of_fork}
use Rattle.fork_commands.proofs.Contents.{refused, spelled}
use Rattle.fork_commands.proofs.reading.content_of_fork.Goals as goal

pub returns-in-Ok-clause-content : goal.returns-in-Ok-clause-content
returns-in-Ok-clause-content c = spelled c.args.fork.now (view c.in-Ok.content) c.in-Ok.ensures.content

pub returns-in-Err-clause-fault : goal.returns-in-Err-clause-fault
returns-in-Err-clause-fault c =
    let why = refused c.args.fork.now c.read_fork.result c.in-Err.fault c.read_fork.ensures.empty
    c.read_fork.ensures.bad_map c.in-Err.is in
    subst (λ fault. Stops fault (content_of_fork c.args.fork.now)) (sym (c.of.ensures ∙ ap of_code c.code.ensures)) why
