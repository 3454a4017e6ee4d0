use Rattle.job_tasks.proofs.Cited.{◌≡◌, Err, rules, message_of, told_err}
use Rattle.job_tasks.specs.declared.tasks.Work.TheVariants as work
use Rattle.job_tasks.proofs.Described.{refused_sent}
use Rattle.job_tasks.proofs.tasks.print_transcript.Goals as goal

-- what is to be printed was not printed to its end
pub returns-in_err-deliver-clause-fault : goal.returns-in_err-deliver-clause-fault
returns-in_err-deliver-clause-fault g c =
    let same : c.from_residual-in_err-deliver.result ≡ Err c.in_err-deliver.field-0.0 = search rules in
    told_err _ _ _ same (refused_sent (work.Script c.args.size) c.args.task.path.now c.args.text.now c.in_ok-out.out.items
    c.as_slice.result.now _ _ _ _ (message_of c.in_err-deliver.field-0.0) c.in_ok-out.ensures.transcript (search rules)
    c.in_err-deliver.ensures.undelivered)
