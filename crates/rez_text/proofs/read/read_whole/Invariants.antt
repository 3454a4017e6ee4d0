use Rattle.rez_text.proofs.Cited.{◌≡◌, ◌+◌, ◌≤◌, drop, state_of, first_line, read_from}
use Rattle.rez_text.proofs.read.read_whole.Given as goal

-- what is still to be read gives, from here on, what the whole text gives
abbrev pub invariant-loop-byte : goal.invariant-loop-byte
invariant-loop-byte l = record {
  counted : l.lines.line ≤ l.byte-index + 1;
  rest : read_from l.lines (state_of l.reader) (drop l.byte-index l.text)
      ≡ read_from first_line (state_of l.fn.start) l.text;
}
