use Rattle.fork_edits.proofs.Gathering.{found_in_both, gathered, both_apart, types_in_order}
use Rattle.fork_edits.proofs.laws.merging_keeps_each_resource.Goals as goal

pub returns-clause-found : goal.returns-clause-found
returns-clause-found c = found_in_both

pub returns-clause-all : goal.returns-clause-all
returns-clause-all c = gathered

pub returns-clause-apart : goal.returns-clause-apart
returns-clause-apart c = both_apart

pub returns-clause-types : goal.returns-clause-types
returns-clause-types c = types_in_order
