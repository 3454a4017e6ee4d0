use Rattle.fork_format.proofs.OneContent.{one_content}
use Rattle.fork_format.proofs.Spelled.{spelled_types, spelled_references}
use Rattle.fork_format.proofs.Clear.{spelled_clear}
use Rattle.fork_format.proofs.laws.bytes_spell_one_content.Goals as goal

pub returns-clause-one : goal.returns-clause-one
returns-clause-one c = one_content

pub returns-clause-distinct : goal.returns-clause-distinct
returns-clause-distinct c = spelled_types

pub returns-clause-references : goal.returns-clause-references
returns-clause-references c = spelled_references

pub returns-clause-clear : goal.returns-clause-clear
returns-clause-clear c = spelled_clear
