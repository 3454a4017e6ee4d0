use Rattle.job_tasks.proofs.Cited.{IfErr, sym, subst, IsUndelivered, message_of, description_text, Printed}
use Rattle.job_tasks.proofs.tasks.deliver_description.Goals as goal

-- the listing was not printed to its end
pub returns-in-Listing-clause-undelivered : goal.returns-in-Listing-clause-undelivered
returns-in-Listing-clause-undelivered g c =
    subst (λ d. IfErr c.deliver_listing.result (λ fault. IsUndelivered Printed (description_text d)
    (g.H.Host.printed c.args.host.now) (g.H.Host.printed c.deliver_listing.new.host)
    (g.H.Host.accesses c.args.host.now) (g.H.Host.accesses c.deliver_listing.new.host) (message_of fault)))
    (sym c.in-Listing.is) c.deliver_listing.ensures.undelivered
