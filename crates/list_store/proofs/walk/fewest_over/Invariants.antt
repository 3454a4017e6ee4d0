use Rattle.list_store.proofs.Cited.{◌≡◌, ◌<◌, ℕ, false, serves, blocks_of}
use Rattle.list_store.proofs.walk.fewest_over.Given as goal

-- none of those so far serves
abbrev pub invariant-loop-purges : goal.invariant-loop-purges
invariant-loop-purges l =
    (k : ℕ) → k < l.purges → serves l.bytes l.sparing (blocks_of l.entries) k ≡ false
