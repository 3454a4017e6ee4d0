use Rattle.zone_replay.proofs.Cited.{◌∙◌, ◌+◌, arith, drop, sym, rest-next, course_of, view_lines}
use Rattle.zone_replay.proofs.InWords.{told_ends, told_goes_on}
use Rattle.zone_replay.proofs.words.tell_steps.Goals as goal

pub returns-then-is_some-clause-ends : goal.returns-then-is_some-clause-ends
returns-then-is_some-clause-ends g c =
    let blocks = c.args.script.now.blocks in
    let i = c.loop-line.line-index in
    let l = c.line-item.result in
    let told = told_ends (view_lines c.args.source.now) blocks (drop i c.args.lines.now)
    (drop (i + 1) c.args.lines.now) l c.loop-line.application c.in_ok-exit.exit c.loop-line.text.items
    c.tell_step.new.text.items _ (course_of blocks c.args.lines.now c.args.application.now)
    (rest-next c.args.lines.now i l (omega arith) c.line-item.is) c.in_ok-exit.ensures.ends
    (sym c.is_some.ensures ∙ c.if-is_some.true) c.in_ok-exit.ensures.told c.loop-line.invariant.0
    c.loop-line.invariant.1 in
    told.1

pub returns-then-is_some-clause-told : goal.returns-then-is_some-clause-told
returns-then-is_some-clause-told g c =
    let blocks = c.args.script.now.blocks in
    let i = c.loop-line.line-index in
    let l = c.line-item.result in
    let told = told_ends (view_lines c.args.source.now) blocks (drop i c.args.lines.now)
    (drop (i + 1) c.args.lines.now) l c.loop-line.application c.in_ok-exit.exit c.loop-line.text.items
    c.tell_step.new.text.items _ (course_of blocks c.args.lines.now c.args.application.now)
    (rest-next c.args.lines.now i l (omega arith) c.line-item.is) c.in_ok-exit.ensures.ends
    (sym c.is_some.ensures ∙ c.if-is_some.true) c.in_ok-exit.ensures.told c.loop-line.invariant.0
    c.loop-line.invariant.1 in
    told.0

pub loop-line-preserved : goal.loop-line-preserved
loop-line-preserved g c =
    let blocks = c.args.script.now.blocks in
    let i = c.loop-line.line-index in
    let l = c.line-item.result in
    let left = told_goes_on (view_lines c.args.source.now) blocks (drop i c.args.lines.now)
    (drop (i + 1) c.args.lines.now) l c.loop-line.application c.tell_step.new.application c.in_ok-exit.exit
    c.loop-line.text.items c.tell_step.new.text.items _ (course_of blocks c.args.lines.now c.args.application.now)
    (rest-next c.args.lines.now i l (omega arith) c.line-item.is) c.in_ok-exit.ensures.ends
    (sym c.is_some.ensures ∙ c.if-is_some.false) c.in_ok-exit.ensures.told c.in_ok-exit.ensures.after
    c.loop-line.invariant.0 c.loop-line.invariant.1 c.loop-line.invariant.2 in
    (left.0, left.1, left.2, c.in_ok-exit.ensures.lies ∙ c.loop-line.invariant.3)
