use Rattle.rez_values.proofs.Cited.{◌≡◌, drop, tokens_of, last_line}
use Rattle.rez_values.proofs.taker.last_line.Given as goal

-- the last line of the tokens to come is that of all
abbrev pub invariant-loop-token : goal.invariant-loop-token
invariant-loop-token l = last_line (tokens_of (drop l.token-index l.tokens)) l.line ≡ last_line (tokens_of l.tokens) 1
