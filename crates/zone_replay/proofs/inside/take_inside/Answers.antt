use Rattle.zone_replay.proofs.Cited.{◌∙◌, ◌+◌, arith, drop, map, sym, rest-next, view_moment, view_lines}
use Rattle.zone_replay.proofs.Glancing.{inside-ends, inside-goes-on}
use Rattle.zone_replay.proofs.inside.take_inside.Goals as goal

pub returns-then-is_some-clause-taken : goal.returns-then-is_some-clause-taken
returns-then-is_some-clause-taken g c =
    let i = c.loop-line.line-index in
    let l = c.line-item.result in
    inside-ends (view_lines c.args.source.now) c.args.script.now.blocks c.args.all (drop i c.args.lines.now)
    (drop (i + 1) c.args.lines.now) l c.loop-line.application c.in_ok-exit.exit (map view_moment c.loop-line.moments.items)
    (map view_moment c.step_inside.new.moments.items) _ (rest-next c.args.lines.now i l (omega arith) c.line-item.is)
    c.in_ok-exit.ensures.ends (sym c.is_some.ensures ∙ c.if-is_some.true) c.in_ok-exit.ensures.added
    c.loop-line.invariant.0

pub loop-line-preserved : goal.loop-line-preserved
loop-line-preserved g c =
    let i = c.loop-line.line-index in
    let l = c.line-item.result in (
      inside-goes-on (view_lines c.args.source.now) c.args.script.now.blocks c.args.all (drop i c.args.lines.now)
          (drop (i + 1) c.args.lines.now) l c.loop-line.application c.step_inside.new.application c.in_ok-exit.exit
          (map view_moment c.loop-line.moments.items) (map view_moment c.step_inside.new.moments.items) _
          (rest-next c.args.lines.now i l (omega arith) c.line-item.is) c.in_ok-exit.ensures.ends
          (sym c.is_some.ensures ∙ c.if-is_some.false) c.in_ok-exit.ensures.added c.in_ok-exit.ensures.after
          c.loop-line.invariant.0,
      c.in_ok-exit.ensures.lies ∙ c.loop-line.invariant.1,
    )
