use Rattle.applications.proofs.Cited.{refl}
use Rattle.applications.proofs.Counting.{steps-next, steps-past, steps-over, ending-alike}
use Rattle.applications.proofs.Elsewhere.{step-elsewhere, launched-elsewhere}
use Rattle.applications.proofs.Quits.{end-elsewhere, ended-elsewhere}
use Rattle.applications.proofs.laws.steps_follow_one_another.Goals as goal

pub returns-clause-begins : goal.returns-clause-begins
returns-clause-begins c = λ resources size script. refl

pub returns-clause-more : goal.returns-clause-more
returns-clause-more c = steps-next

pub returns-clause-past : goal.returns-clause-past
returns-clause-past c = steps-past

pub returns-clause-over : goal.returns-clause-over
returns-clause-over c = steps-over

pub returns-clause-alike_end : goal.returns-clause-alike_end
returns-clause-alike_end c = ending-alike

pub returns-clause-elsewhere : goal.returns-clause-elsewhere
returns-clause-elsewhere c = step-elsewhere

pub returns-clause-elsewhere_end : goal.returns-clause-elsewhere_end
returns-clause-elsewhere_end c = end-elsewhere

pub returns-clause-elsewhere_left : goal.returns-clause-elsewhere_left
returns-clause-elsewhere_left c = ended-elsewhere

pub returns-clause-elsewhere_launch : goal.returns-clause-elsewhere_launch
returns-clause-elsewhere_launch c = launched-elsewhere
