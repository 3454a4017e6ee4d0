use Rattle.job_tasks.proofs.Cited.{bytes_of, stopped_there, also_ok}
use Rattle.fork_commands.proofs.Pairs.{also_err}
use Rattle.job_tasks.proofs.work.form_in.Goals as goal

-- the form of the fork in the file
pub returns-in-Ok-clause-form : goal.returns-in-Ok-clause-form
returns-in-Ok-clause-form c = also_ok _ _ c.fork_form.result (λ form is. (c.in-Ok.found.fork.now, c.in-Ok.ensures.fork, is))
    c.fork_form.ensures.form

-- why the fork in the file has none
pub returns-in-Ok-clause-fault : goal.returns-in-Ok-clause-fault
returns-in-Ok-clause-fault c = also_err _ _ c.fork_form.result
    (λ fault stops. stopped_there (bytes_of c.args.file.now) c.in-Ok.found.fork.now fault c.in-Ok.ensures.fork stops)
    c.fork_form.ensures.fault
