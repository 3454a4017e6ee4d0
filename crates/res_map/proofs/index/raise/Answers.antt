use Rattle.res_map.proofs.Cited.{rules, map_over_more, take_all, drop_all, moved, raised_within}
use Rattle.res_map.proofs.index.raise.Goals as goal

pub loop-i-preserved : goal.loop-i-preserved
loop-i-preserved c = search (rules, map_over_more (moved (raised_within c.args.from)))

pub returns : goal.returns
returns c = search (rules, take_all, drop_all)
