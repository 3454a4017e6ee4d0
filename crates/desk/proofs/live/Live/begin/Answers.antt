use Rattle.desk.proofs.Cited.{◌++◌, ◌∙◌, ℕ, List, ap, launch_line}
use Rattle.desk.proofs.Coming.{launched_there, lies_there}
use Rattle.desk.proofs.live.Live.begin.Goals as goal

pub returns-clause-live : goal.returns-clause-live
returns-clause-live g c = launched_there c.args.resources c.args.window
    (g.S.BlockStore.zone c.args.store) (g.S.BlockStore.rest c.args.store).window c.write_launch.new.text.items
    c.in_ok-application.application c.in_ok-application.ensures.launched c.requires.zone c.requires.least
    (c.in-Ok.ensures.line ∙ ap (λ (x : List ℕ). x ++ launch_line c.args.window.len) c.new-text.ensures.items)

pub returns-clause-lies : goal.returns-clause-lies
returns-clause-lies g c = lies_there c.args.resources (g.S.BlockStore.zone c.args.store)
    (g.S.BlockStore.rest c.args.store).window c.in_ok-application.application c.in_ok-application.ensures.launched
