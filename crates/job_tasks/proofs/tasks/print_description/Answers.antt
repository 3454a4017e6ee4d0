use Rattle.job_tasks.proofs.Cited.{◌≡◌, Err, refl, rules, message_of, description_text, told_err}
use Rattle.job_tasks.specs.declared.tasks.Work.TheVariants as work
use Rattle.job_tasks.proofs.Described.{refused_sent}
use Rattle.job_tasks.proofs.tasks.print_description.Goals as goal

-- what is to be printed was not printed to its end
pub returns-in_err-deliver_description-clause-fault : goal.returns-in_err-deliver_description-clause-fault
returns-in_err-deliver_description-clause-fault g c =
    let same : c.from_residual-in_err-deliver_description.result ≡ Err c.in_err-deliver_description.field-0.0 = search rules in
    told_err _ _ _ same (refused_sent (work.Describe c.args.spelling) c.args.path.now c.args.bytes.now
    (description_text c.in_ok-said.said) (description_text c.in_ok-said.said) _ _ _ _
    (message_of c.in_err-deliver_description.field-0.0) c.in_ok-said.ensures.text refl
    c.in_err-deliver_description.ensures.undelivered)
