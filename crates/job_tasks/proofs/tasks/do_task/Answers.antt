use Rattle.job_tasks.proofs.Cited.{IfErr, sym, subst, message_of, IsRefusal}
use Rattle.job_tasks.proofs.tasks.do_task.Goals as goal

-- the fault is that of what is printed

pub returns-in-Script-clause-fault : goal.returns-in-Script-clause-fault
returns-in-Script-clause-fault g c =
    subst (λ w. IfErr c.print_transcript.result (λ fault. IsRefusal w c.args.task.path.now c.args.bytes.now
    (g.H.Host.printed c.args.host.now) (g.H.Host.printed c.print_transcript.new.host)
    (g.H.Host.accesses c.args.host.now) (g.H.Host.accesses c.print_transcript.new.host) (message_of fault)))
    (sym c.in-Script.is) c.print_transcript.ensures.fault

pub returns-in-Heap-clause-fault : goal.returns-in-Heap-clause-fault
returns-in-Heap-clause-fault g c =
    subst (λ w. IfErr c.print_zone.result (λ fault. IsRefusal w c.args.task.path.now c.args.bytes.now
    (g.H.Host.printed c.args.host.now) (g.H.Host.printed c.print_zone.new.host)
    (g.H.Host.accesses c.args.host.now) (g.H.Host.accesses c.print_zone.new.host) (message_of fault)))
    (sym c.in-Heap.is) c.print_zone.ensures.fault

pub returns-in-Map-clause-fault : goal.returns-in-Map-clause-fault
returns-in-Map-clause-fault g c =
    subst (λ w. IfErr c.print_map.result (λ fault. IsRefusal w c.args.task.path.now c.args.bytes.now
    (g.H.Host.printed c.args.host.now) (g.H.Host.printed c.print_map.new.host)
    (g.H.Host.accesses c.args.host.now) (g.H.Host.accesses c.print_map.new.host) (message_of fault)))
    (sym c.in-Map.is) c.print_map.ensures.fault

pub returns-in-Describe-clause-fault : goal.returns-in-Describe-clause-fault
returns-in-Describe-clause-fault g c =
    subst (λ w. IfErr c.print_description.result (λ fault. IsRefusal w c.args.task.path.now c.args.bytes.now
    (g.H.Host.printed c.args.host.now) (g.H.Host.printed c.print_description.new.host)
    (g.H.Host.accesses c.args.host.now) (g.H.Host.accesses c.print_description.new.host) (message_of fault)))
    (sym c.in-Describe.is) c.print_description.ensures.fault

pub returns-in-Check-clause-fault : goal.returns-in-Check-clause-fault
returns-in-Check-clause-fault g c =
    subst (λ w. IfErr c.print_form.result (λ fault. IsRefusal w c.args.task.path.now c.args.bytes.now
    (g.H.Host.printed c.args.host.now) (g.H.Host.printed c.print_form.new.host)
    (g.H.Host.accesses c.args.host.now) (g.H.Host.accesses c.print_form.new.host) (message_of fault)))
    (sym c.in-Check.is) c.print_form.ensures.fault

pub returns-in-Zone-clause-fault : goal.returns-in-Zone-clause-fault
returns-in-Zone-clause-fault g c =
    subst (λ w. IfErr c.print_answer.result (λ fault. IsRefusal w c.args.task.path.now c.args.bytes.now
    (g.H.Host.printed c.args.host.now) (g.H.Host.printed c.print_answer.new.host)
    (g.H.Host.accesses c.args.host.now) (g.H.Host.accesses c.print_answer.new.host) (message_of fault)))
    (sym c.in-Zone.is) c.print_answer.ensures.fault
