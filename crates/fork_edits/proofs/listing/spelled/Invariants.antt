use Rattle.fork_edits.proofs.Cited.{◌≡◌, ◌++◌, ◌*◌, drop, length, take, option_map, bytes_spelled}
use Rattle.fork_edits.proofs.listing.spelled.Given as goal

-- the bytes so far, with those that the digits to come spell, are all
abbrev pub invariant-loop-i : goal.invariant-loop-i
invariant-loop-i l = record {
  room : length l.bytes ≡ 240;
  told : option_map (λ rest. take l.i l.bytes ++ rest) (bytes_spelled (drop (2 * l.i) l.text)) ≡ bytes_spelled l.text;
}
