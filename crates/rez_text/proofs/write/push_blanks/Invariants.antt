use Rattle.rez_text.proofs.Cited.{◌≡◌, ◌++◌, ◌-◌, replicate}
use Rattle.rez_text.proofs.write.push_blanks.Given as goal

-- the blanks so far, with those to come, are all
abbrev pub invariant-loop-i : goal.invariant-loop-i
invariant-loop-i l = l.out.items ++ replicate (l.count - l.i) 32 ≡ l.fn.out.items ++ replicate l.count 32
