use Rattle.rez_text.proofs.Cited.{◌≡◌, ◌++◌, drop, flat_map, shown}
use Rattle.rez_text.proofs.write.push_shown.Given as goal

-- the bytes so far, with those to come, are all
abbrev pub invariant-loop-byte : goal.invariant-loop-byte
invariant-loop-byte l = l.out.items ++ flat_map (shown l.lettering) (drop l.byte-index l.bytes)
    ≡ l.fn.out.items ++ flat_map (shown l.lettering) l.bytes
