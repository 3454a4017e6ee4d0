use Rattle.fork_edits.proofs.Keeping.{set_found, set_others, set_places}
use Rattle.fork_edits.proofs.laws.setting_a_resource_changes_nothing_else.Goals as goal

pub returns-clause-set : goal.returns-clause-set
returns-clause-set c = set_found

pub returns-clause-others : goal.returns-clause-others
returns-clause-others c = set_others

pub returns-clause-places : goal.returns-clause-places
returns-clause-places c = set_places
