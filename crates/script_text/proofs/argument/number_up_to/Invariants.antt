use Rattle.script_text.proofs.Cited.{◌≡◌, ◌≤◌, length, number_within}
use Rattle.script_text.proofs.argument.number_up_to.Given as goal

-- the digits that are still to be read, behind the number so far, give what all of them give
abbrev pub invariant-loop-rest : goal.invariant-loop-rest
invariant-loop-rest l = (l.found ≤ l.limit) × (number_within l.limit l.found l.rest ≡ number_within l.limit 0 l.digits)

abbrev pub decreases-loop-rest : goal.decreases-loop-rest
decreases-loop-rest l = length l.rest
