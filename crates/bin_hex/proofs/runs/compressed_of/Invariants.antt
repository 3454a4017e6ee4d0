use Rattle.bin_hex.proofs.Cited.{◌≡◌, ◌++◌, drop, runs_after, compressed}
use Rattle.bin_hex.proofs.runs.compressed_of.Given as goal

-- the text so far, with that to come, is all
abbrev pub invariant-loop-byte : goal.invariant-loop-byte
invariant-loop-byte l = l.out.items ++ runs_after l.last l.count (drop l.byte-index l.bytes) ≡ compressed l.fn.bytes
