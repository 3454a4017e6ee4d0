use Rattle.rez_text.proofs.Cited.{◌≡◌, ◌+◌, ◌≤◌, drop, last_line}
use Rattle.rez_text.proofs.coding.last_line_of.Given as goal

-- the line of the last byte that is still to come is that of the whole text's
abbrev pub invariant-loop-byte : goal.invariant-loop-byte
invariant-loop-byte l = record {
  counted : l.line ≤ l.byte-index + 1;
  rest : last_line l.line l.last (drop l.byte-index l.text) ≡ last_line 1 0 l.text;
}
