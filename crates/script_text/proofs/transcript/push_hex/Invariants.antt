use Rattle.script_text.proofs.Cited.{◌≡◌, ◌≤◌, ◌++◌, length, take, vec_len, vec_capacity, hex}
use Rattle.script_text.proofs.transcript.push_hex.Given as goal

-- what is written, before the bytes that are still to be written, behind the text as it was
abbrev pub invariant-loop-rest : goal.invariant-loop-rest
invariant-loop-rest l = record {
  written : l.text.items ++ hex l.rest ≡ l.fn.text.items ++ hex l.bytes;
  front : take (vec_len l.fn.text) l.text.items ≡ l.fn.text.items;
  capacity : vec_capacity l.fn.text ≤ vec_capacity l.text;
}

abbrev pub decreases-loop-rest : goal.decreases-loop-rest
decreases-loop-rest l = length l.rest
