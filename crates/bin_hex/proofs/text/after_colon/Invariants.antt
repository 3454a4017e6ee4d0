use Rattle.bin_hex.proofs.Cited.{◌≡◌, drop, after_colon}
use Rattle.bin_hex.proofs.text.after_colon.Given as goal

-- no colon stands before
abbrev pub invariant-loop-at : goal.invariant-loop-at
invariant-loop-at l = after_colon (drop l.at l.bytes) ≡ after_colon l.fn.bytes
