use Rattle.zone_replay.proofs.Cited.{◌≡◌, ◌∙◌, ◌++◌, List, [], ap, map, lines_told, glances, Course, step, added_with, inside, view_moment}
use Rattle.zone_replay.proofs.Cited.{view_lines, call_words, in_words, view_try, moment}
use Rattle.zone_replay.proofs.Glancing.{seen_words}
use Rattle.zone_replay.proofs.inside.step_inside.Goals as goal

pub returns-clause-added : goal.returns-clause-added
returns-clause-added g c =
    let l = c.args.line.now in
    let r = c.args.application.now in
    let blocks = c.args.script.now.blocks in
    let written = view_lines c.args.source.now in
    let taken : Course = step blocks l r in
    let told = c.as_slice.ensures.value ∙ c.in_ok-exit.ensures.came.0
    ∙ (λ i. c.new-told.ensures.items i ++ lines_told taken.lines) in
    let words = c.in_ok-caption.ensures ∙ ap (call_words written) told in
    let after = c.in_ok-moment.ensures ∙ (λ i. moment l.number (words i) (c.in_ok-exit.ensures.came.1 i)) in
    let seen = c.in_ok-tries.ensures
    ∙ ap (map (in_words written)) (c.in_ok-exit.ensures.saw [] (ap (map view_try) c.new.ensures.items))
    ∙ seen_words written (glances blocks l r) in
    c.in_ok-add_inside.ensures
    ∙ (λ i. added_with c.args.all (map view_moment c.args.moments.now.items)
    (inside c.args.all (c.in_ok-before.ensures i) (seen i) (after i)) (after i))
