use Rattle.rez_printing.proofs.Cited.{◌≡◌, drop, map, text_of, named_text}
use Rattle.rez_printing.proofs.pieces.push_text.Given as goal

-- no name so far stands for the string, and nothing is written
abbrev pub invariant-loop-constant : goal.invariant-loop-constant
invariant-loop-constant l = record {
  rest : named_text l.style l.layout l.text.is_hex (map text_of (drop l.constant-index l.text.constants.items)) l.bytes
      ≡ named_text l.style l.layout l.text.is_hex (map text_of l.text.constants.items) l.bytes;
  same : l.out.items ≡ l.fn.out.items;
}
