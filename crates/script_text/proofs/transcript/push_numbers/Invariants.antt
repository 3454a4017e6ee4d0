use Rattle.script_text.proofs.Cited.{◌≡◌, ◌≤◌, ◌++◌, drop, map, take, vec_len, vec_capacity, Number, shown_all}
use Rattle.script_text.proofs.transcript.push_numbers.Given as goal

-- what is written, before the numbers that are still to be written, behind the text as it was
abbrev pub invariant-loop-number : goal.invariant-loop-number
invariant-loop-number l = record {
  written : l.text.items ++ shown_all (map Number (drop l.number-index l.numbers))
      ≡ l.fn.text.items ++ shown_all (map Number l.numbers);
  front : take (vec_len l.fn.text) l.text.items ≡ l.fn.text.items;
  capacity : vec_capacity l.fn.text ≤ vec_capacity l.text;
}
