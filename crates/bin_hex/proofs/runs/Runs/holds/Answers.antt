use Rattle.bin_hex.proofs.Cited.{◌<◌, arith, rules, length}
use Rattle.bin_hex.proofs.Holding.{further}
use Rattle.bin_hex.proofs.runs.Runs.holds.Goals as goal

pub loop-at-preserved : goal.loop-at-preserved
loop-at-preserved c =
    let there : c.loop-at.at < length c.args.self.now.packed.items = search (rules, arith) in
    further c.loop-at.marked c.is_marked_after-marked.result c.loop-at.found c.loop-at.at _ c.index-byte.result.now
    c.given_by.result c.args.self.now.packed.items there c.index-byte.ensures c.given_by.ensures
    c.is_marked_after-marked.ensures c.loop-at.invariant
