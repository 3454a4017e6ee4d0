use Rattle.heap_calls.proofs.Cited.{◌≡◌, ◌+◌, length, first_from}
use Rattle.heap_calls.proofs.munging.first_from.Given as goal

-- the bytes that are left have the first like the wanted where all have it
abbrev pub invariant-loop-rest : goal.invariant-loop-rest
invariant-loop-rest l = (first_from l.at l.wanted l.rest ≡ first_from l.first l.wanted l.bytes)
    × (l.at + length l.rest ≡ l.first + length l.bytes)

abbrev pub decreases-loop-rest : goal.decreases-loop-rest
decreases-loop-rest l = length l.rest
