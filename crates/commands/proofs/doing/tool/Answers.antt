use Rattle.commands.proofs.Cited.{Asks, also_err}
use Rattle.commands.proofs.doing.tool.Goals as goal

-- some request was not done
pub returns-clause-undone : goal.returns-clause-undone
returns-clause-undone g c =
    also_err _ _ c.perform.result (λ fault undone. Asks c.in_ok-request.request c.in_ok-request.ensures.asked undone)
    c.perform.ensures.undone
