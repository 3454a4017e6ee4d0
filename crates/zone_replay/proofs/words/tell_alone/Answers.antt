use Rattle.zone_replay.proofs.Cited.{◌∙◌, ◌++◌, ◌||◌, List, ap, length, take, nat_lt, sizes, Line, launched-lies, view_lines, launch_words}
use Rattle.zone_replay.proofs.InWords.{words-alone}
use Rattle.zone_replay.proofs.words.tell_alone.Goals as goal

pub returns-in-Ok-told-clause-told : goal.returns-in-Ok-told-clause-told
returns-in-Ok-told-clause-told g c =
    words-alone c.args.resources (sizes (g.S.BlockStore.zone c.args.store)) c.args.script.now c.args.text.now
    c.args.steps c.args.quit c.in-Ok-launch_with.application _ c.first-lines.result.now c.is_asked-asked.result
    (view_lines c.in-Ok.source) c.write_launch.new.text.items c.tell_to_end-told.new.text.items
    c.in-Ok-launch_with.ensures.launched
    (c.first-lines.ensures ∙ ap (take {A = Line} c.args.steps) c.steps.ensures.steps)
    (c.is_asked-asked.ensures
    ∙ ap (λ (ls : List Line). nat_lt (length ls) c.args.steps || c.args.quit) c.steps-2.ensures.steps)
    c.in-Ok.ensures
    (c.in-Ok-write_launch.ensures ∙ (λ i. c.new-out.ensures.items i ++ launch_words (c.len.ensures i)))
    c.in-Ok-told.ensures.told

pub returns-in-Ok-told-clause-window : goal.returns-in-Ok-told-clause-window
returns-in-Ok-told-clause-window g c =
    c.into_parts-store.ensures.window ∙ c.in-Ok-told.ensures.lies
    ∙ launched-lies c.args.resources _ c.in-Ok-launch_with.application _ c.in-Ok-launch_with.ensures.launched

pub returns-clause-window : goal.returns-clause-window
returns-clause-window g c =
    c.into_parts-store.ensures.window ∙ c.tell_to_end-told.ensures.lies
    ∙ launched-lies c.args.resources _ c.in-Ok-launch_with.application _ c.in-Ok-launch_with.ensures.launched
