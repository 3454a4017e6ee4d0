use Rattle.commands.proofs.Cited.{IfErr, sym, subst, message_of, IsUndone}
use Rattle.commands.proofs.doing.perform.Goals as goal

-- the job was not run to its end
pub returns-in-Run-clause-undone : goal.returns-in-Run-clause-undone
returns-in-Run-clause-undone g c =
    subst (λ request. IfErr c.run.result (λ fault. IsUndone request
    (g.W.Watch.heard c.args.watch.now) (g.W.Watch.heard c.run.new.watch)
    (g.H.Host.printed c.args.host.now) (g.H.Host.printed c.run.new.host)
    (g.H.Host.accesses c.args.host.now) (g.H.Host.accesses c.run.new.host) (message_of fault)))
    (sym c.in-Run.is) c.run.ensures.undone

-- the resources of a fork were not written, or not all
pub returns-in-Extract-clause-undone : goal.returns-in-Extract-clause-undone
returns-in-Extract-clause-undone g c =
    subst (λ request. IfErr c.write_resources.result (λ fault. IsUndone request
    (g.W.Watch.heard c.args.watch.now) (g.W.Watch.heard c.args.watch.now)
    (g.H.Host.printed c.args.host.now) (g.H.Host.printed c.write_resources.new.host)
    (g.H.Host.accesses c.args.host.now) (g.H.Host.accesses c.write_resources.new.host) (message_of fault)))
    (sym c.in-Extract.is) c.write_resources.ensures.undone

-- the fork that a folder states was not written
pub returns-in-Pack-clause-undone : goal.returns-in-Pack-clause-undone
returns-in-Pack-clause-undone g c =
    subst (λ request. IfErr c.write_packed.result (λ fault. IsUndone request
    (g.W.Watch.heard c.args.watch.now) (g.W.Watch.heard c.args.watch.now)
    (g.H.Host.printed c.args.host.now) (g.H.Host.printed c.write_packed.new.host)
    (g.H.Host.accesses c.args.host.now) (g.H.Host.accesses c.write_packed.new.host) (message_of fault)))
    (sym c.in-Pack.is) c.write_packed.ensures.undone
