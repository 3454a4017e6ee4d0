use Rattle.zone_replay.proofs.Cited.{◌∙◌, ap, take, sizes, Line, launched-lies, view_lines}
use Rattle.zone_replay.proofs.InWords.{words-between}
use Rattle.zone_replay.proofs.words.tell_between.Goals as goal

pub returns-clause-told : goal.returns-clause-told
returns-clause-told g c = words-between c.args.resources (sizes (g.S.BlockStore.zone c.args.store)) c.args.script.now
    c.args.text.now c.args.from c.args.to c.in-Ok-launch_with.application _ c.first-lines.result.now
    c.between-later.result.now (view_lines c.in-Ok.source) c.run_and_tell-told.result c.in-Ok-launch_with.ensures.launched
    (c.first-lines.ensures ∙ ap (take {A = Line} c.args.from) c.steps.ensures.steps) c.between-later.ensures
    c.in-Ok.ensures c.run_and_tell-told.ensures.told

pub returns-clause-window : goal.returns-clause-window
returns-clause-window g c = c.into_parts-store.ensures.window ∙ c.run_and_tell-told.ensures.lies
    ∙ launched-lies c.args.resources _ c.in-Ok-launch_with.application _ c.in-Ok-launch_with.ensures.launched
