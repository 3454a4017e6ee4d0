use Rattle.heap_calls.proofs.Cited.{◌≡◌, ℕ, ◌-◌, true, false, length, take, replicate, ◌∙◌, ap, arith, length-append, length-take}
use Rattle.heap_calls.proofs.Cited.{length-replicate, padded, Block, Free, Nonrelocatable, Masters, Relocatable, size, is_nonrelocatable}
use Rattle.heap_calls.proofs.Cited.{resized}

-- The size of a pointer's block.

-- what it takes at n bytes
pub nonrelocatable-size : (place n : ℕ) (b : Block) → is_nonrelocatable place b ≡ true → size (resized n b) ≡ padded n
nonrelocatable-size place n (Free m) e = let f : false ≡ true = e in cc
nonrelocatable-size place n (Nonrelocatable id content) e = ap padded (length-append (take n content) (replicate (n - length content) 0)
    ∙ omega (arith, length-take n content, length-replicate {A = ℕ} (n - length content) 0))
nonrelocatable-size place n Masters e = let f : false ≡ true = e in cc
nonrelocatable-size place n (Relocatable id flags content) e = let f : false ≡ true = e in cc
