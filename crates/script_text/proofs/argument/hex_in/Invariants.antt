use Rattle.script_text.proofs.Cited.{◌≡◌, length, hex_bytes}
use Rattle.script_text.proofs.Digits.{with_front}
use Rattle.script_text.proofs.argument.hex_in.Given as goal

-- the digits that are still to be read, behind the bytes so far, give what all of them give
abbrev pub invariant-loop-rest : goal.invariant-loop-rest
invariant-loop-rest l = with_front l.found.items (hex_bytes l.rest) ≡ hex_bytes l.digits

abbrev pub decreases-loop-rest : goal.decreases-loop-rest
decreases-loop-rest l = length l.rest
