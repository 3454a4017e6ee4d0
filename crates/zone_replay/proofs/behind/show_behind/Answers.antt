use Rattle.zone_replay.proofs.Cited.{◌∙◌, ◌++◌, ap, take, sizes, Line, launch_line, launched-lies}
use Rattle.zone_replay.proofs.Forms.{shown-alone}
use Rattle.zone_replay.proofs.behind.show_behind.Goals as goal

pub returns-clause-shown : goal.returns-clause-shown
returns-clause-shown g c = shown-alone c.args.form c.args.resources (sizes (g.S.BlockStore.zone c.args.store))
    c.args.script.now c.args.n c.in-Ok-launch_with.application _ c.first-lines.result.now c.write_launch.new.text.items
    c.run_and_show-shown.result c.in-Ok-launch_with.ensures.launched
    (c.first-lines.ensures ∙ ap (take {A = Line} c.args.n) c.steps.ensures.steps)
    (c.in-Ok.ensures.line ∙ (λ i. c.new-transcript.ensures.items i ++ launch_line (c.len.ensures i)))
    c.run_and_show-shown.ensures.shown

pub returns-clause-window : goal.returns-clause-window
returns-clause-window g c = c.into_parts-store.ensures.window ∙ c.run_and_show-shown.ensures.lies
    ∙ launched-lies c.args.resources _ c.in-Ok-launch_with.application _ c.in-Ok-launch_with.ensures.launched
