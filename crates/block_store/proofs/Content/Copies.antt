use Rattle.block_store.proofs.Cited.{◌≡◌, ℕ, ◌≤◌, List, length, take, arith, length-take}

-- Bytes of one entry written into another.

-- as many bytes as are taken
pub first-bytes : (n : ℕ) (bytes : List ℕ) → n ≤ length bytes → n ≡ length (take n bytes)
first-bytes n bytes fits = let z = length-take n bytes in omega (arith, z)
