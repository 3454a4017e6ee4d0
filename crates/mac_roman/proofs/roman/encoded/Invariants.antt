use Rattle.mac_roman.proofs.Cited.{◌≡◌, drop, bytes_of}
use Rattle.mac_roman.proofs.Encoding.{after}
use Rattle.mac_roman.proofs.roman.encoded.Given as goal

-- the bytes so far, before those of the other characters
abbrev pub invariant-loop-character : goal.invariant-loop-character
invariant-loop-character l = after l.out.items (bytes_of (drop l.character-index l.characters)) ≡ bytes_of l.characters
