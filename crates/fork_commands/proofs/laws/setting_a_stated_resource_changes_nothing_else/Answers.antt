use Rattle.fork_commands.proofs.StatedSet.{stated_found, stated_others}
use Rattle.fork_commands.proofs.laws.setting_a_stated_resource_changes_nothing_else.Goals as goal

pub returns-clause-set : goal.returns-clause-set
returns-clause-set c = stated_found

pub returns-clause-others : goal.returns-clause-others
returns-clause-others c = stated_others
