use Rattle.rez_printing.proofs.Cited.{◌≡◌, ◌++◌, drop, flat_map, escaped}
use Rattle.rez_printing.specs.declared.style.Letters.TheVariants as letter
use Rattle.rez_printing.proofs.pieces.push_all_escaped.Given as goal

-- the bytes so far, with those to come, are all
abbrev pub invariant-loop-byte : goal.invariant-loop-byte
invariant-loop-byte l = l.out.items ++ flat_map (escaped letter.Ascii l.quote) (drop l.byte-index l.bytes)
    ≡ l.fn.out.items ++ flat_map (escaped letter.Ascii l.quote) l.bytes
