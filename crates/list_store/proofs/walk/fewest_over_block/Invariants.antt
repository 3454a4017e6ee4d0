use Rattle.list_store.proofs.Cited.{◌≡◌, ◌<◌, ℕ, false, serves_block, blocks_of}
use Rattle.list_store.proofs.walk.fewest_over_block.Given as goal

-- none of those so far serves
abbrev pub invariant-loop-count : goal.invariant-loop-count
invariant-loop-count l =
    (k : ℕ) → k < l.count → serves_block l.number l.bytes l.sparing (blocks_of l.entries) k ≡ false
