use Rattle.fork_rules.proofs.Cited.{ℕ, ◌+◌, ◌<◌, slice_index}
use Rattle.fork_rules.proofs.sharing.do_climb.Given as goal

-- the numbers so far rise
abbrev pub invariant-loop-i : goal.invariant-loop-i
invariant-loop-i l = (k : ℕ) → k + 1 < l.i → slice_index l.numbers k < slice_index l.numbers (k + 1)
