use Rattle.fork_edits.proofs.Moving.{renamed_places, renamed_found, renamed_others}
use Rattle.fork_edits.proofs.laws.renaming_a_resource_changes_nothing_else.Goals as goal

pub returns-clause-places : goal.returns-clause-places
returns-clause-places c = renamed_places

pub returns-clause-found : goal.returns-clause-found
returns-clause-found c = renamed_found

pub returns-clause-others : goal.returns-clause-others
returns-clause-others c = renamed_others
