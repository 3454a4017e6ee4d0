use Rattle.bin_hex.proofs.Cited.{◌≡◌, ◌++◌, drop, groups_after, IsLeft}
use Rattle.bin_hex.specs.declared.packing.Left.TheVariants as left_bits
use Rattle.bin_hex.proofs.packing.groups_of_bytes.Given as goal

-- the groups so far, with those to come, are all
abbrev pub invariant-loop-byte : goal.invariant-loop-byte
invariant-loop-byte l = record {
  whole : l.groups.items ++ groups_after l.left (drop l.byte-index l.bytes)
      ≡ groups_after left_bits.Nothing l.fn.bytes;
  left : IsLeft l.left;
}
