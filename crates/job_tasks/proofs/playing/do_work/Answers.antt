use Rattle.job_tasks.proofs.Cited.{IfErr, OnOk, map, sym, subst, on_ok_weaker, message_of, source_given, DoesPlay, IsPlayUndone, also_err}
use Rattle.job_tasks.proofs.playing.do_work.Goals as goal

-- nothing is printed where something is written
pub returns-in-Leavings-clause-done : goal.returns-in-Leavings-clause-done
returns-in-Leavings-clause-done g c =
    subst (λ w. OnOk c.write_leavings.result (DoesPlay c.args.play.now w (map (λ text. text.items) c.args.taken.now.texts.items)
    c.args.taken.now.player.app (map source_given c.args.taken.now.player.sources.items) c.args.resources
    (g.H.Host.printed c.args.host.now) (g.H.Host.printed c.write_leavings.new.host)
    (g.H.Host.accesses c.args.host.now) (g.H.Host.accesses c.write_leavings.new.host)))
    (sym c.in-Leavings.is)
    (on_ok_weaker c.write_leavings.result (λ h. (c.write_leavings.ensures.silent, h)) c.write_leavings.ensures.done)

pub returns-in-Leavings-clause-undone : goal.returns-in-Leavings-clause-undone
returns-in-Leavings-clause-undone g c =
    subst (λ w. IfErr c.write_leavings.result (λ fault. IsPlayUndone c.args.play.now w
    (map (λ text. text.items) c.args.taken.now.texts.items)
    c.args.taken.now.player.app (map source_given c.args.taken.now.player.sources.items) c.args.resources
    (g.H.Host.printed c.args.host.now) (g.H.Host.printed c.write_leavings.new.host)
    (g.H.Host.accesses c.args.host.now) (g.H.Host.accesses c.write_leavings.new.host) (message_of fault)))
    (sym c.in-Leavings.is)
    (also_err _ _ c.write_leavings.result (λ fault h. (c.write_leavings.ensures.silent, h)) c.write_leavings.ensures.undone)
