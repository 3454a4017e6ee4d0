use Rattle.fork_edits.proofs.Cited.{◌≡◌, drop, number_from}
use Rattle.fork_edits.proofs.attributes.read_digits.Given as goal

abbrev pub invariant-loop-digit : goal.invariant-loop-digit
invariant-loop-digit l = number_from l.number (drop l.digit-index l.text) ≡ number_from 0 l.text
