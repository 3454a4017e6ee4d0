use Rattle.rez_values.proofs.Cited.{◌≡◌, length, tokens_of, bare}
use Rattle.rez_values.proofs.taker.bare.Given as goal

abbrev pub decreases-loop-rest : goal.decreases-loop-rest
decreases-loop-rest l = length l.rest

-- what follows the fills to come follows all
abbrev pub invariant-loop-rest : goal.invariant-loop-rest
invariant-loop-rest l = bare (tokens_of l.rest) ≡ bare (tokens_of l.tokens)
