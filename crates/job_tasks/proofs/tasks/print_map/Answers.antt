use Rattle.job_tasks.proofs.Cited.{IfErr, subst, message_of, IsRefusal}
use Rattle.job_tasks.specs.declared.tasks.Work.TheVariants as work
use Rattle.job_tasks.proofs.tasks.print_map.Goals as goal

-- the file that was opened is that of the bytes
pub returns-clause-fault : goal.returns-clause-fault
returns-clause-fault g c =
    subst (λ b. IfErr c.print_opened.result (λ fault. IsRefusal (work.Map c.args.spelling) c.args.path.now b
    (g.H.Host.printed c.args.host.now) (g.H.Host.printed c.print_opened.new.host)
    (g.H.Host.accesses c.args.host.now) (g.H.Host.accesses c.print_opened.new.host) (message_of fault)))
    c.in_ok-file.ensures.bytes c.print_opened.ensures.fault
