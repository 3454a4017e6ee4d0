use Rattle.res_calls.proofs.Preloads.{IsGiven}
use Rattle.res_calls.proofs.preloading.give_all.Given as goal

-- the numbers are given as far as the loop has come
abbrev pub invariant-loop-i : goal.invariant-loop-i
invariant-loop-i l = IsGiven l.initial.file l.numbers l.i l.next l.file
