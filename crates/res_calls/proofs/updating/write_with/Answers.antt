use Rattle.res_calls.proofs.Cited.{view}
use Rattle.res_calls.proofs.WritingAnew.{is_written}
use Rattle.res_calls.proofs.updating.write_with.Goals as goal

pub returns-in-Ok : goal.returns-in-Ok
returns-in-Ok c = is_written _ (view c.in_ok-content.content) c.in-Ok.fork.items c.in_ok-content.ensures
    c.in-Ok.ensures.fork c.in-Ok.ensures.read_again c.in-Ok.ensures.fits
