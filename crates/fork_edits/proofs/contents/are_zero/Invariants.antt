use Rattle.fork_edits.proofs.Cited.{◌≡◌, drop, ◌==◌, list_all}
use Rattle.fork_edits.proofs.contents.are_zero.Given as goal

abbrev pub invariant-loop-byte : goal.invariant-loop-byte
invariant-loop-byte l = list_all (λ b. b == 0) (drop l.byte-index l.bytes) ≡ list_all (λ b. b == 0) l.bytes
