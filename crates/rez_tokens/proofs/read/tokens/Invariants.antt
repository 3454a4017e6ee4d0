use Rattle.std.proofs.Common.{◌≡◌, ◌+◌, ◌≤◌, drop}
use Rattle.rez_tokens.specs.State.{state_of}
use Rattle.rez_tokens.specs.Reading.{lexed_from, lexed}
use Rattle.rez_tokens.proofs.read.tokens.Given as goal

-- what is still to be read gives, from here on, what the whole text gives
abbrev pub invariant-loop-byte : goal.invariant-loop-byte
invariant-loop-byte l = record {
  counted : l.line ≤ l.byte-index + 1;
  rest : lexed_from l.line l.before (state_of l.lexer) (drop l.byte-index l.text) ≡ lexed l.text;
}
