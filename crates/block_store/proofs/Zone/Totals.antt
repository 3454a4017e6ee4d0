use Rattle.block_store.proofs.Cited.{◌≡◌, ℕ, ◌+◌, ◌≤◌, List, [], ◌∷◌, ◌++◌, arith, Block, total, free, free_sum}

-- what blocks and others above them come to
pub total-append : (of : Block → ℕ) (below above : List Block)
    → total of (below ++ above) ≡ total of below + total of above
total-append of [] above = omega arith
total-append of (b ∷ below) above = omega (arith, total-append of below above)

-- what each block comes to by one measure is no more than by another
pub total-le : (of of' : Block → ℕ) → ((b : Block) → of b ≤ of' b) → (bs : List Block) → total of bs ≤ total of' bs
total-le of of' less [] = omega arith
total-le of of' less (b ∷ bs) = omega (arith, less b, total-le of of' less bs)

-- so many Free bytes are as many
pub free_sum-free : (n : ℕ) → free_sum (free n) ≡ n
free_sum-free n = grind arith
