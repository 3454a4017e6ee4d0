use Rattle.commands.proofs.Cited.{◌≡◌, ℕ, List, subst, rules, message_of, IsRefusal, Refused, also_err}
use Rattle.commands.proofs.doing.look.Goals as goal

-- the file was read, and then the task was refused
pub returns-clause-undone : goal.returns-clause-undone
returns-clause-undone g c =
    let read : List ℕ = c.in_ok-bytes.bytes.items in
    let bytes : c.as_slice.result.now ≡ read = search rules in
    also_err _ _ c.do_task.result (λ fault h. Refused read
    (subst (λ a. IsRefusal c.args.task.work c.args.task.path.now read (g.H.Host.printed c.args.host.now)
    (g.H.Host.printed c.do_task.new.host) a (g.H.Host.accesses c.do_task.new.host) (message_of fault))
    c.in_ok-bytes.ensures.read
    (subst (λ p. IsRefusal c.args.task.work c.args.task.path.now read p (g.H.Host.printed c.do_task.new.host)
    (g.H.Host.accesses c.read_input.new.host) (g.H.Host.accesses c.do_task.new.host) (message_of fault))
    c.in_ok-bytes.ensures.silent
    (subst (λ b. IsRefusal c.args.task.work c.args.task.path.now b (g.H.Host.printed c.read_input.new.host)
    (g.H.Host.printed c.do_task.new.host) (g.H.Host.accesses c.read_input.new.host)
    (g.H.Host.accesses c.do_task.new.host) (message_of fault)) bytes h)))) c.do_task.ensures.fault
