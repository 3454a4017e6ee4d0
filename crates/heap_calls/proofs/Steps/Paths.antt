use Rattle.heap_calls.proofs.Cited.{◌≡◌, ℕ, List, [], ◌∷◌, ◌++◌, refl, put_reads}
use Rattle.heap_calls.proofs.Promises.Knowing.{with_bytes}

-- A path of steps, and one that follows it.

-- what was read first, and what was read then
pub put_reads-then : (first later : List (ℕ × List ℕ)) (bytes : ℕ → List ℕ)
    → put_reads (first ++ later) bytes ≡ put_reads later (put_reads first bytes)
put_reads-then [] later bytes = refl
put_reads-then (read ∷ first) later bytes = put_reads-then first later (with_bytes read.0 read.1 bytes)
