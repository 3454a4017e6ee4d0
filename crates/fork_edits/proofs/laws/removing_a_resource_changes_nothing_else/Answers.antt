use Rattle.fork_edits.proofs.Taking.{without_others, without_found, without_none, without_types}
use Rattle.fork_edits.proofs.laws.removing_a_resource_changes_nothing_else.Goals as goal

pub returns-clause-others : goal.returns-clause-others
returns-clause-others c = without_others

pub returns-clause-gone : goal.returns-clause-gone
returns-clause-gone c = without_found

pub returns-clause-none : goal.returns-clause-none
returns-clause-none c = without_none

pub returns-clause-types : goal.returns-clause-types
returns-clause-types c = without_types
