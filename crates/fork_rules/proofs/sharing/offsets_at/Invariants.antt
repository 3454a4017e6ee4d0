use Rattle.fork_rules.proofs.Cited.{ℕ, ◌≡◌, ◌+◌, ◌++◌, drop, map, number}
use Rattle.fork_rules.proofs.sharing.offsets_at.Given as goal

-- the offsets so far, with those of the places that are left, are all
abbrev pub invariant-loop-place : goal.invariant-loop-place
invariant-loop-place l = l.offsets.items ++ map (λ (at : ℕ). number 3 (at + 5) l.bytes) (drop l.place-index l.places)
    ≡ map (λ (at : ℕ). number 3 (at + 5) l.bytes) l.places
