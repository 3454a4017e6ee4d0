use Rattle.zone_replay.proofs.Cited.{get, nat_cmp, view_lent}
use Rattle.zone_replay.proofs.Entering.{one-more-owned}
use Rattle.zone_replay.proofs.known.enter_file.Goals as goal

pub loop-index-preserved : goal.loop-index-preserved
loop-index-preserved c = (
  λ n. one-more-owned (get nat_cmp c.loop-index.owners n)
      (get nat_cmp c.enter_reference.new.owners n) n c.args.file.now.number
      c.number.result c.loop-index.index
      (view_lent c.reference.result) c.args.file.now.map.references _ c.reference.ensures c.number.ensures
      (c.in_ok-enter_reference.ensures.entered n) (c.loop-index.invariant.0 n),
  λ none. c.in_ok-enter_reference.ensures.given (c.loop-index.invariant.1 none),
)
