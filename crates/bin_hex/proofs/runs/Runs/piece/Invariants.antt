use Rattle.bin_hex.proofs.Cited.{◌≡◌, ◌≤◌, length, take, drop, rest_of}
use Rattle.bin_hex.proofs.runs.Runs.piece.Given as goal

-- the bytes so far are the first of those that were there, and the others are still to be given
abbrev pub invariant-loop : goal.invariant-loop
invariant-loop l = record {
  got : l.bytes.items ≡ take l.counter (rest_of l.fn.self);
  rest : rest_of l.self ≡ drop l.counter (rest_of l.fn.self);
  there : l.counter ≤ length (rest_of l.fn.self);
}
