use Rattle.fork_tasks.proofs.Cited.{◌≡◌, ◌*◌, take, hex}
use Rattle.fork_tasks.proofs.listing.put_digits.Given as goal

-- the digits of the bytes so far
abbrev pub invariant-loop-i : goal.invariant-loop-i
invariant-loop-i l = take (2 * l.i) l.digits ≡ hex (take l.i l.bytes)
