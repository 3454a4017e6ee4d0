use Rattle.job_tasks.proofs.Cited.{◌≡◌, Err, IfErr, map, subst, rules, StopsAmong, message_of, source_given, leaves_alone, writes_alone}
use Rattle.job_tasks.proofs.Cited.{told_err}
use Rattle.fork_tasks.specs.declared.fault.ToolFault.TheVariants.{HostMemory as NoMemory}
use Rattle.job_tasks.proofs.Played.{unwritten}
use Rattle.job_tasks.proofs.playing.write_leavings.Goals as goal

-- there is no memory for the paths, or to run the script
pub returns-in_err-room-clause-undone : goal.returns-in_err-room-clause-undone
returns-in_err-room-clause-undone g c =
    let same : c.from_residual.result ≡ Err NoMemory = search rules in
    told_err _ _ NoMemory same (unwritten _ _ _)

pub returns-in_err-given-clause-undone : goal.returns-in_err-given-clause-undone
returns-in_err-given-clause-undone g c =
    let same : c.from_residual-in_err-given.result ≡ Err NoMemory = search rules in
    told_err _ _ NoMemory same (unwritten _ _ _)

-- what the application leaves was not written to its end
pub returns-clause-undone : goal.returns-clause-undone
returns-clause-undone g c =
    let sources : c.deref.result.now ≡ c.args.player.now.sources.items = search rules in
    subst (λ ss. IfErr c.written.result (λ fault. StopsAmong (writes_alone c.args.folder.now (map source_given ss)
    (leaves_alone c.args.play.now c.args.player.now.app c.args.resources))
    (g.H.Host.accesses c.args.host.now) (g.H.Host.accesses c.written.new.host) (message_of fault))) sources
    (subst (λ left. IfErr c.written.result (λ fault. StopsAmong (writes_alone c.args.folder.now
    (map source_given c.deref.result.now) left)
    (g.H.Host.accesses c.args.host.now) (g.H.Host.accesses c.written.new.host) (message_of fault)))
    c.in_ok-given.ensures c.written.ensures.stopped)
