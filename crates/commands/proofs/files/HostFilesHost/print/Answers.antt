use Rattle.commands.proofs.Cited.{nothing}
use Rattle.commands.proofs.files.HostFilesHost.print.Goals as goal

-- what is known of the bytes is nothing, before and after

pub returns-in-Ok-clause-front : goal.returns-in-Ok-clause-front
returns-in-Ok-clause-front g c = nothing _ _

pub returns-in-Err-clause-front : goal.returns-in-Err-clause-front
returns-in-Err-clause-front g c = nothing _ _
