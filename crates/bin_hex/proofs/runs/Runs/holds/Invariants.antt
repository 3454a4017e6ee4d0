use Rattle.bin_hex.proofs.Cited.{◌≡◌, ◌+◌, length, drop, rest_of, expanded}
use Rattle.bin_hex.proofs.runs.Runs.holds.Given as goal

-- the bytes that were found, with those that the rest of the text stands for, are all
abbrev pub invariant-loop-at : goal.invariant-loop-at
invariant-loop-at l = l.found + length (expanded l.marked 0 (drop l.at l.self.packed.items)) ≡ length (rest_of l.self)
