use Rattle.res_map.proofs.Cited.{rules, map_over_more, take_all, drop_all, moved, lowered}
use Rattle.res_map.proofs.index.lower.Goals as goal

pub loop-i-preserved : goal.loop-i-preserved
loop-i-preserved c = search (rules, map_over_more (moved (lowered c.args.from)))

pub returns : goal.returns
returns c = search (rules, take_all, drop_all)
