use Rattle.fork_edits.proofs.Cited.{◌≡◌, ◌≤◌, drop, number_after}
use Rattle.fork_edits.proofs.numbers.read_within.Given as goal

-- the digits to come lead on from the number so far
abbrev pub invariant-loop-digit : goal.invariant-loop-digit
invariant-loop-digit l = record {
  within : l.number ≤ l.limit;
  rest : number_after l.limit l.number (drop l.digit-index l.text) ≡ number_after l.limit 0 l.text;
}
