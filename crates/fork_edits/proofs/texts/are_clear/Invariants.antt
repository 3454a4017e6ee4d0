use Rattle.fork_edits.proofs.Cited.{◌≡◌, drop, list_all, is_clear}
use Rattle.fork_edits.proofs.texts.are_clear.Given as goal

abbrev pub invariant-loop-byte : goal.invariant-loop-byte
invariant-loop-byte l = list_all (is_clear l.charset) (drop l.byte-index l.bytes) ≡ list_all (is_clear l.charset) l.bytes
