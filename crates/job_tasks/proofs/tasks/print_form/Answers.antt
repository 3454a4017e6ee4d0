use Rattle.job_tasks.proofs.Cited.{◌≡◌, Err, refl, rules, message_of, told_err}
use Rattle.job_tasks.specs.declared.tasks.Work.TheVariants as work
use Rattle.job_tasks.proofs.Described.{refused_sent}
use Rattle.job_tasks.proofs.tasks.print_form.Goals as goal

-- what is to be printed was not printed to its end
pub returns-in_err-deliver-clause-fault : goal.returns-in_err-deliver-clause-fault
returns-in_err-deliver-clause-fault g c =
    let same : c.from_residual-in_err-deliver.result ≡ Err c.in_err-deliver.field-0.0 = search rules in
    told_err _ _ _ same (refused_sent work.Check c.args.path.now c.args.bytes.now c.in_ok-out.out.now
    c.in_ok-out.out.now _ _ _ _ (message_of c.in_err-deliver.field-0.0) c.in_ok-out.ensures.form refl
    c.in_err-deliver.ensures.undelivered)
