use Rattle.fork_commands.proofs.Cited.{view, bytes_of}
use Rattle.fork_commands.proofs.Contents.{content_there, stopped_there}
use Rattle.fork_commands.proofs.Pairs.{also_ok, also_err}
use Rattle.fork_commands.proofs.reading.content_in.Goals as goal

pub returns-in-Ok-clause-content : goal.returns-in-Ok-clause-content
returns-in-Ok-clause-content c = also_ok _ _ c.content_of_fork.result
    (λ x has. content_there (bytes_of c.args.file.now) c.in-Ok.found.fork.now (view x) c.in-Ok.ensures.fork has)
    c.content_of_fork.ensures.content

pub returns-in-Ok-clause-fault : goal.returns-in-Ok-clause-fault
returns-in-Ok-clause-fault c = also_err _ _ c.content_of_fork.result
    (λ fault stops. stopped_there (bytes_of c.args.file.now) c.in-Ok.found.fork.now fault c.in-Ok.ensures.fork stops)
    c.content_of_fork.ensures.fault
