use Rattle.bin_hex.proofs.Cited.{◌≡◌, drop, after_mark}
use Rattle.bin_hex.proofs.text.after_mark.Given as goal

-- the mark is not found before
abbrev pub invariant-loop-at : goal.invariant-loop-at
invariant-loop-at l = after_mark (drop l.at l.bytes) ≡ after_mark l.fn.bytes
