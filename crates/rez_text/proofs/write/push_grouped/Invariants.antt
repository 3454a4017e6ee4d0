use Rattle.rez_text.proofs.Cited.{◌≡◌, ◌++◌, drop, grouped}
use Rattle.rez_text.proofs.write.push_grouped.Given as goal

-- the bytes so far, with those to come, are all
abbrev pub invariant-loop-i : goal.invariant-loop-i
invariant-loop-i l = l.out.items ++ grouped l.i (drop l.i l.bytes) ≡ l.fn.out.items ++ grouped 0 l.bytes
