use Rattle.block_store.proofs.Cited.{◌≡◌, ℕ, arith, counted}

-- a counter is the same after none more
pub counted-none : (n : ℕ) → counted n 0 ≡ n
counted-none n = omega arith
