use Rattle.bin_hex.proofs.Cited.{◌≡◌, ◌++◌, ◌-◌, replicate, literal}
use Rattle.std.specs.List.{flat_map}
use Rattle.bin_hex.proofs.runs.push_literals.Given as goal

-- the bytes so far, with those to come, are all
abbrev pub invariant-loop-i : goal.invariant-loop-i
invariant-loop-i l = l.out.items ++ flat_map literal (replicate (l.count - l.i) l.byte)
    ≡ l.fn.out.items ++ flat_map literal (replicate l.count l.byte)
