use Rattle.lint.proofs.Jobs.{first_is}
use Rattle.lint.proofs.job.first_is_the_job_readers.Goals as goal

pub returns : goal.returns
returns c = first_is
