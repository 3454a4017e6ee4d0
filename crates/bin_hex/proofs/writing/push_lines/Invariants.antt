use Rattle.bin_hex.proofs.Cited.{◌≡◌, ◌≤◌, ◌++◌, ◌∷◌, [], drop, map, character, encoded_lines, in_lines}
use Rattle.bin_hex.proofs.writing.push_lines.Given as goal

-- the lines so far, with those to come, are all
abbrev pub invariant-loop-group : goal.invariant-loop-group
invariant-loop-group l = record {
  whole : l.out.items ++ in_lines l.column (map character (drop l.group-index l.groups) ++ 58 ∷ [])
      ≡ l.fn.out.items ++ encoded_lines l.groups;
  fits : l.column ≤ 64;
}
