use Rattle.fork_rules.proofs.Cited.{◌≡◌, ◌-◌, drop, do_rise}
use Rattle.fork_rules.proofs.sharing.are_rising.Given as goal

-- whether the numbers rise from the one before the next is whether all do
abbrev pub invariant-loop-i : goal.invariant-loop-i
invariant-loop-i l = do_rise (drop (l.i - 1) l.numbers) ≡ do_rise l.numbers
