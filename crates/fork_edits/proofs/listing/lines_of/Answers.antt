use Rattle.fork_edits.proofs.Cited.{◌∙◌, ap, map, rules, tests, split_rest, split_done, split_callee, YieldsList-from_slice_split}
use Rattle.fork_edits.proofs.Cited.{YieldsList-end, is_newline}
use Rattle.fork_edits.proofs.listing.lines_of.Goals as goal

pub returns : goal.returns
returns c =
    let i = c.into_iter-line-iterator.ensures.into_iter_gives in
    let t = YieldsList-end (YieldsList-from_slice_split _ is_newline c.args.text.now
    (ap split_rest i ∙ c.split-line-items.ensures.rest)
    (ap split_done i ∙ c.split-line-items.ensures.done) (ap split_callee i ∙ c.split-line-items.ensures.closure)
    (λ x r q k. search (rules, tests)))
    c.loop-line.yielded _ c.loop-line.yielded_by _ _ c.in-None.is c.next.ensures.steps in
    ap (map (λ line. line.now)) c.loop-line.invariant ∙ t.0
