use Rattle.res_calls.proofs.LeftFiles.{leaves_system, leaves_count, leaves_alike, leaves_untouched}
use Rattle.res_calls.proofs.LeftFiles.{leaves_nothing_touched}
use Rattle.res_calls.proofs.laws.an_application_that_leaves_closes_its_files.Goals as goal

pub returns-clause-closed : goal.returns-clause-closed
returns-clause-closed c = leaves_system

pub returns-clause-count : goal.returns-clause-count
returns-clause-count c = leaves_count

pub returns-clause-files : goal.returns-clause-files
returns-clause-files c = leaves_alike

pub returns-clause-untouched : goal.returns-clause-untouched
returns-clause-untouched c = leaves_untouched

pub returns-clause-nothing_touched : goal.returns-clause-nothing_touched
returns-clause-nothing_touched c = leaves_nothing_touched
