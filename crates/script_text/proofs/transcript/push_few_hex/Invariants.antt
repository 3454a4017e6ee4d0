use Rattle.script_text.proofs.Cited.{◌≡◌, ◌≤◌, ◌++◌, drop, take, vec_len, vec_capacity, hex}
use Rattle.script_text.proofs.transcript.push_few_hex.Given as goal

-- what is written, before the bytes that are still to be written, behind the text as it was
abbrev pub invariant-loop-byte : goal.invariant-loop-byte
invariant-loop-byte l = record {
  written : l.text.items ++ hex (drop l.byte-index l.bytes) ≡ l.fn.text.items ++ hex l.bytes;
  front : take (vec_len l.fn.text) l.text.items ≡ l.fn.text.items;
  capacity : vec_capacity l.fn.text ≤ vec_capacity l.text;
}
