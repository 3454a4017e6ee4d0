use Rattle.heap_calls.proofs.Cited.{ℕ, List, [], ◌∷◌, Site, Memory, fresh_memory, Asked, served, after_calls, put_by, OneBlockEach}
use Rattle.heap_calls.proofs.Promises.Knowing.{Known, known-fresh}
use Rattle.heap_calls.proofs.Tries.Gating.{served-known}

-- What holds after calls one after another.

once-after : (calls : List Asked) (m : Memory) (bytes : ℕ → List ℕ) → Known m.heap bytes
    → OneBlockEach (after_calls calls m).heap.zone
once-after [] m bytes known = known.once
once-after (a ∷ more) m bytes known = once-after more (served a m).1 (put_by a (served a m).0 bytes)
    (served-known a m bytes known)

-- no handle has two blocks
pub one_block_each : (n : ℕ) (window : Site) (calls : List Asked)
    → OneBlockEach (after_calls calls (fresh_memory n window)).heap.zone
one_block_each n window calls = once-after calls (fresh_memory n window) (λ h. []) (known-fresh n)
