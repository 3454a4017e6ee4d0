use Rattle.zone_replay.proofs.Cited.{◌∙◌, ◌++◌, None, values_of, try_line}
use Rattle.zone_replay.proofs.Glancing.{glanced, no-values}
use Rattle.zone_replay.proofs.inside.glance_line.Goals as goal

pub returns : goal.returns
returns c g grown line coded = glanced g c.args.line.now c.args.grown c.of-word.result c.of-reply.result c.args.code _
    c.of-word.ensures c.of-reply.ensures.code
    (no-values c.of-reply.result c.of-reply.ensures.numbers c.of-reply.ensures.ty c.of-reply.ensures.name)
    (c.in_ok-push_line.ensures ∙ (λ i. c.new-text.ensures.items i
    ++ try_line c.args.grown c.args.line.now.number c.of-word.result c.of-reply.result.code.0 (values_of c.of-reply.result None)))
    grown line coded
