use Rattle.bin_hex.proofs.Cited.{◌≡◌, ◌-◌, length, rest_of}
use Rattle.bin_hex.proofs.runs.Runs.next.Given as goal

-- the bytes that are still to be given stay
abbrev pub invariant-loop-self : goal.invariant-loop-self
invariant-loop-self l = rest_of l.self ≡ rest_of l.fn.self

abbrev pub decreases-loop-self : goal.decreases-loop-self
decreases-loop-self l = length l.self.packed.items - l.self.at
