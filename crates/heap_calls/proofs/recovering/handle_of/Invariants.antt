use Rattle.heap_calls.proofs.Cited.{◌≡◌, drop, State, handle_from, state_of}
use Rattle.heap_calls.proofs.recovering.handle_of.Given as goal

-- what is found among the numbers that are left is found among all
abbrev pub invariant-loop-number : goal.invariant-loop-number
invariant-loop-number g l =
    let s : State = state_of (g.S.BlockStore.zone l.store) (g.S.BlockStore.rest l.store).slots l.names in
    handle_from l.place l.number (drop l.number s.names) s ≡ handle_from l.place 0 s.names s
