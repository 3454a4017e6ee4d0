use Rattle.std.proofs.Common.{◌≡◌, ◌+◌, ◌<◌, ℕ, true, false, List, length, drop, get_or, arith}
use Rattle.std.specs.Prelude.{◌==◌, bytes_eq}
use Rattle.std.proofs.lemmas.Grind.{common_steps}

-- Two texts are compared byte by byte.

-- behind two bytes that are the same
pub same_next : (xs ys : List ℕ) (i : ℕ) → i < length xs → length xs ≡ length ys
    → (get_or xs i 0 == get_or ys i 0) ≡ true
    → bytes_eq (drop (i + 1) xs) (drop (i + 1) ys) ≡ bytes_eq (drop i xs) (drop i ys)
same_next = grind (arith, common_steps)

-- at two bytes that differ
pub differ_here : (xs ys : List ℕ) (i : ℕ) → i < length xs → length xs ≡ length ys
    → (get_or xs i 0 == get_or ys i 0) ≡ false → bytes_eq (drop i xs) (drop i ys) ≡ false
differ_here = grind (arith, common_steps)

-- behind the last bytes
pub same_at_end : (xs ys : List ℕ) → length xs ≡ length ys → bytes_eq (drop (length xs) xs) (drop (length xs) ys) ≡ true
same_at_end = grind (arith, common_steps)

-- of other lengths
pub differ_long : (xs ys : List ℕ) → (length xs == length ys) ≡ false → bytes_eq xs ys ≡ false
differ_long = grind (arith, common_steps)
