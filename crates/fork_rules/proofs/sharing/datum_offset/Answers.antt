use Rattle.fork_rules.proofs.Cited.{◌+◌, ◌∙◌, ap, drop, drop-drop}
use Rattle.fork_rules.proofs.Columns.{of_three}
use Rattle.fork_rules.proofs.sharing.datum_offset.Goals as goal

pub returns : goal.returns
returns c = of_three c.byte_or_zero-high.result c.byte_or_zero-middle.result c.byte_or_zero-low.result
    (drop (c.args.place + 5) c.args.bytes.now) c.rest_of-rest.result.now
    (c.rest_of-rest.ensures ∙ ap (drop 5) c.rest_of.ensures ∙ drop-drop 5 c.args.place c.args.bytes.now)
    c.byte_or_zero-high.ensures c.byte_or_zero-middle.ensures c.byte_or_zero-low.ensures
