use Rattle.zone_replay.proofs.Cited.{◌∙◌, ◌++◌, ap, take, sizes, Line, launch_line, launched-lies, view_lines}
use Rattle.zone_replay.proofs.Following.{moments-alone}
use Rattle.zone_replay.proofs.moments.show_moments.Goals as goal

pub returns-clause-shown : goal.returns-clause-shown
returns-clause-shown g c = moments-alone c.args.resources (sizes (g.S.BlockStore.zone c.args.store)) c.args.script.now
    c.args.text.now c.args.from c.args.to c.args.strips c.in-Ok-launch_with.application _ c.first-lines.result.now
    c.between-later.result.now (view_lines c.in-Ok.source) c.write_launch.new.text.items c.run_and_draw-shown.result
    c.in-Ok-launch_with.ensures.launched
    (c.first-lines.ensures ∙ ap (take {A = Line} c.args.from) c.steps.ensures.steps) c.between-later.ensures c.in-Ok.ensures
    (c.in-Ok-write_launch.ensures.line ∙ (λ i. c.new-transcript.ensures.items i ++ launch_line (c.len.ensures i)))
    c.run_and_draw-shown.ensures.shown

pub returns-clause-window : goal.returns-clause-window
returns-clause-window g c = c.into_parts-store.ensures.window ∙ c.run_and_draw-shown.ensures.lies
    ∙ launched-lies c.args.resources _ c.in-Ok-launch_with.application _ c.in-Ok-launch_with.ensures.launched
