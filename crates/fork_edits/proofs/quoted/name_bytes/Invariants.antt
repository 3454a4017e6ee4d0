use Rattle.fork_edits.proofs.Cited.{◌≡◌, [], drop, quoted_from, Start}
use Rattle.fork_edits.proofs.quoted.name_bytes.Given as goal

-- the bytes to come lead on from where the reader stands
abbrev pub invariant-loop-byte : goal.invariant-loop-byte
invariant-loop-byte l =
    quoted_from l.within l.name.items (drop l.byte-index l.text) ≡ quoted_from Start [] l.text
