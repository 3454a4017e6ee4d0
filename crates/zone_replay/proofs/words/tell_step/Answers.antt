use Rattle.zone_replay.proofs.Cited.{◌∙◌, ◌++◌, ap, lines_told, Course, step, changes, view_lines, step_words, standing}
use Rattle.zone_replay.proofs.words.tell_step.Goals as goal

pub returns-clause-told : goal.returns-clause-told
returns-clause-told g c =
    let taken : Course = step c.args.script.now.blocks c.args.line.now c.args.application.now in
    let after = c.in_ok-after.ensures ∙ ap standing c.in_ok-exit.ensures.came.1 in
    let changed = c.as_slice.ensures.value ∙ c.in_ok-write_changes.ensures
    ∙ (λ i. c.new-changes.ensures.items i ++ changes (c.in_ok-before.ensures i) (after i)) in
    let told = c.as_slice-2.ensures.value ∙ c.in_ok-exit.ensures.came.0
    ∙ (λ i. c.new-told.ensures.items i ++ lines_told taken.lines) in
    c.in_ok-write_step.ensures
    ∙ (λ i. c.args.text.now.items ++ step_words (view_lines c.args.source.now) (changed i) (told i))
