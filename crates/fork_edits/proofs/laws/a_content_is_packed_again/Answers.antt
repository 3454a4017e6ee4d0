use Rattle.fork_edits.proofs.Extracting.{listed_again, content_again, fork_again}
use Rattle.fork_edits.proofs.Folders.{folder_has}
use Rattle.fork_edits.proofs.Listable.{spelled_listable}
use Rattle.fork_edits.proofs.laws.a_content_is_packed_again.Goals as goal

pub returns-clause-spelled : goal.returns-clause-spelled
returns-clause-spelled c = spelled_listable

pub returns-clause-list : goal.returns-clause-list
returns-clause-list c = listed_again

pub returns-clause-folder : goal.returns-clause-folder
returns-clause-folder c = folder_has

pub returns-clause-content : goal.returns-clause-content
returns-clause-content c = content_again

pub returns-clause-fork : goal.returns-clause-fork
returns-clause-fork c = fork_again
