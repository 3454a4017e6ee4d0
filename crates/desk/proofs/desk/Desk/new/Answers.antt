use Rattle.desk.proofs.Cited.{rules, view}
use Rattle.desk.proofs.Leaving.{housed_given}
use Rattle.desk.proofs.desk.Desk.new.Goals as goal

pub invariant_of-result : goal.invariant_of-result
invariant_of-result g c = (
  housed_given _ (view c.args.system.now) c.args.apps.now _ _ _ _ (search rules) (search rules) (search rules) (search rules),
  search rules,
  search rules,
  search rules,
  search rules,
)
