use Rattle.desk.proofs.Cited.{true}
use Rattle.desk.proofs.live.Live.act.Goals as goal

pub returns-in_ok-end-in-Quit-clause-came : goal.returns-in_ok-end-in-Quit-clause-came
returns-in_ok-end-in-Quit-clause-came g c = rw c.in-Quit.is (c.in_ok-end-in-Quit.ensures.came true)
