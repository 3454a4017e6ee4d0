use Rattle.job_tasks.proofs.Cited.{◌≡◌, [], Err, refl, rules, view, bytes_of, message_of, listing, told_err}
use Rattle.job_tasks.specs.declared.tasks.Work.TheVariants as work
use Rattle.job_tasks.proofs.Described.{refused_sent}
use Rattle.job_tasks.proofs.tasks.print_opened.Goals as goal

-- the listing was not printed to its end
pub returns-in_err-deliver_listing-clause-fault : goal.returns-in_err-deliver_listing-clause-fault
returns-in_err-deliver_listing-clause-fault g c =
    let same : c.from_residual-in_err-deliver_listing.result ≡ Err c.in_err-deliver_listing.field-0.0 = search rules in
    told_err _ _ _ same (refused_sent (work.Map c.args.spelling) c.args.path.now (bytes_of c.args.file.now)
    (listing c.args.spelling [] (view c.in_ok-content.content)) _ _ _ _ _ (message_of c.in_err-deliver_listing.field-0.0)
    (view c.in_ok-content.content, c.in_ok-content.ensures.content, refl) (search rules)
    c.in_err-deliver_listing.ensures.undelivered)
