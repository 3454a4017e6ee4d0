use Rattle.applications.proofs.Cited.{◌∙◌, ◌++◌, ◌||◌, List, ap, subst, length, take, nat_lt, sizes, IsStored, Line, launch_line}
use Rattle.applications.proofs.Quits.{given_alone, launched-lies}
use Rattle.applications.proofs.Stopping.{heard-alone, stopped-alone}
use Rattle.applications.proofs.giving.give_in.Goals as goal

pub returns-in-Ok-given-clause-given : goal.returns-in-Ok-given-clause-given
returns-in-Ok-given-clause-given g c =
    let n = sizes (g.S.BlockStore.zone c.args.store) in
    let gave = given_alone c.args.resources n c.args.script.now c.args.steps c.args.quit
    c.in-Ok-launch_with.application c.give-given.new.self _ c.first.result.now c.is_asked-asked.result
    c.write_launch.new.text.items c.give-given.new.text.items c.in-Ok-launch_with.ensures.launched
    (c.in-Ok.ensures.line ∙ (λ i. c.new-transcript.ensures.items i ++ launch_line (c.len.ensures i)))
    (c.is_asked-asked.ensures
    ∙ ap (λ (ls : List Line). nat_lt (length ls) c.args.steps || c.args.quit) c.steps-lines.ensures.steps)
    (c.first.ensures ∙ ap (take {A = Line} c.args.steps) c.steps-lines.ensures.steps)
    c.in-Ok-given.ensures.text c.in-Ok-given.ensures.after in
    let files = c.into_parts-store.ensures.files ∙ gave.files in
    λ i. record { transcript = gave.transcript i; files = files i }

pub returns-in-Ok-given-clause-stored : goal.returns-in-Ok-given-clause-stored
returns-in-Ok-given-clause-stored g c =
    let n = sizes (g.S.BlockStore.zone c.args.store) in
    let gave = given_alone c.args.resources n c.args.script.now c.args.steps c.args.quit
    c.in-Ok-launch_with.application c.give-given.new.self _ c.first.result.now c.is_asked-asked.result
    c.write_launch.new.text.items c.give-given.new.text.items c.in-Ok-launch_with.ensures.launched
    (c.in-Ok.ensures.line ∙ (λ i. c.new-transcript.ensures.items i ++ launch_line (c.len.ensures i)))
    (c.is_asked-asked.ensures
    ∙ ap (λ (ls : List Line). nat_lt (length ls) c.args.steps || c.args.quit) c.steps-lines.ensures.steps)
    (c.first.ensures ∙ ap (take {A = Line} c.args.steps) c.steps-lines.ensures.steps)
    c.in-Ok-given.ensures.text c.in-Ok-given.ensures.after in
    subst (IsStored (g.S.BlockStore.zone c.into_parts-store.result.0) (g.S.BlockStore.rest c.into_parts-store.result.0).slots)
    gave.heap c.into_parts-store.ensures.stored

pub returns-in-Ok-given-clause-window : goal.returns-in-Ok-given-clause-window
returns-in-Ok-given-clause-window g c =
    c.into_parts-store.ensures.window ∙ c.give-given.ensures.lies
    ∙ launched-lies c.args.resources _ c.in-Ok-launch_with.application _ c.in-Ok-launch_with.ensures.launched

pub returns-in-Err-given-clause-window : goal.returns-in-Err-given-clause-window
returns-in-Err-given-clause-window g c =
    c.into_parts-store.ensures.window ∙ c.give-given.ensures.lies
    ∙ launched-lies c.args.resources _ c.in-Ok-launch_with.application _ c.in-Ok-launch_with.ensures.launched

pub returns-in-Ok-given-clause-heard : goal.returns-in-Ok-given-clause-heard
returns-in-Ok-given-clause-heard g c =
    heard-alone c.args.resources (sizes (g.S.BlockStore.zone c.args.store)) c.args.script.now c.args.steps
    c.first.result.now c.in-Ok-launch_with.application _ (g.W.Watch.heard c.args.watch.now)
    (g.W.Watch.heard c.give-given.new.watch) c.in-Ok-launch_with.ensures.launched
    (c.first.ensures ∙ ap (take {A = Line} c.args.steps) c.steps-lines.ensures.steps) c.in-Ok-given.ensures.heard

pub returns-in-Err-given-clause-stopped : goal.returns-in-Err-given-clause-stopped
returns-in-Err-given-clause-stopped g c =
    stopped-alone c.args.resources (sizes (g.S.BlockStore.zone c.args.store)) c.args.script.now c.args.steps
    c.first.result.now c.in-Ok-launch_with.application _ (g.W.Watch.heard c.args.watch.now)
    (g.W.Watch.heard c.give-given.new.watch) c.in-Ok-launch_with.ensures.launched
    (c.first.ensures ∙ ap (take {A = Line} c.args.steps) c.steps-lines.ensures.steps) c.in-Err-given.ensures.stopped
