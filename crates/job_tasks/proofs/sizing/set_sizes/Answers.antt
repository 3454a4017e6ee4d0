use Rattle.job_tasks.proofs.Cited.{rules, map_over_more, take_all, drop_all, sized}
use Rattle.job_tasks.proofs.sizing.set_sizes.Goals as goal

pub loop-i-preserved : goal.loop-i-preserved
loop-i-preserved c = search (rules, map_over_more (sized c.args.sizes.now))

pub returns : goal.returns
returns c = search (rules, take_all, drop_all)
