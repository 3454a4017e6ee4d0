use Rattle.rez_printing.proofs.Cited.{◌≡◌, drop, map, number_of, integer_text}
use Rattle.rez_printing.proofs.pieces.push_integer.Given as goal

-- no name so far stands for the number, and nothing is written
abbrev pub invariant-loop-constant : goal.invariant-loop-constant
invariant-loop-constant l = record {
  rest : integer_text l.integer.form l.integer.width.bits (map number_of (drop l.constant-index l.integer.constants.items)) l.number
      ≡ integer_text l.integer.form l.integer.width.bits (map number_of l.integer.constants.items) l.number;
  same : l.out.items ≡ l.fn.out.items;
}
