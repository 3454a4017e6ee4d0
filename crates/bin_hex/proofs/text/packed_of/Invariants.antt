use Rattle.bin_hex.proofs.Cited.{◌≡◌, ◌+◌, drop, packed_in, IsHeld, sextets}
use Rattle.bin_hex.proofs.Taking.{after}
use Rattle.bin_hex.proofs.text.packed_of.Given as goal

-- the bytes so far, with those to come, are all
abbrev pub invariant-loop-at : goal.invariant-loop-at
invariant-loop-at l = record {
  whole : after l.packed.items l.held (sextets (l.start + l.at) (drop l.at l.encoded)) ≡ packed_in l.start l.fn.encoded;
  held : IsHeld l.held;
}
