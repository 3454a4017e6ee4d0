use Rattle.fork_tasks.proofs.Cited.{◌≡◌, ℕ, ◌+◌, ◌*◌, ◌/◌, ◌%◌, ◌<◌, List, [], ◌∷◌, ◌++◌, length, take, set, get_or, refl, sym, ◌∙◌, ap}
use Rattle.fork_tasks.proofs.Cited.{arith, add-one, append_assoc, take-suc, take-set_at, length-set, lower_digit, hex}

-- Digits that are put two by two.

hex-push : (xs : List ℕ) (x : ℕ) → hex (xs ++ x ∷ []) ≡ hex xs ++ lower_digit (x / 16) ∷ lower_digit (x % 16) ∷ []
hex-push [] x = refl
hex-push (y ∷ xs) x = ap (λ l. lower_digit (y / 16) ∷ lower_digit (y % 16) ∷ l) (hex-push xs x)

same_two : (l : List ℕ) (a b d e : ℕ) → a ≡ d → b ≡ e → l ++ a ∷ b ∷ [] ≡ l ++ d ∷ e ∷ []
same_two l a b d e p q = ap (λ n. l ++ n ∷ b ∷ []) p ∙ ap (λ n. l ++ d ∷ n ∷ []) q

-- the digits of one byte more
pub two_more : (digits bytes : List ℕ) (i a b : ℕ) → i < length bytes → 2 * i + 1 < length digits
    → take (2 * i) digits ≡ hex (take i bytes)
    → a ≡ lower_digit (get_or bytes i 0 / 16) → b ≡ lower_digit (get_or bytes i 0 % 16)
    → take (2 * (i + 1)) (set (set digits (2 * i) a) (2 * i + 1) b) ≡ hex (take (i + 1) bytes)
two_more digits bytes i a b inside room so first second =
    let x : ℕ = get_or bytes i 0 in
    let front : List ℕ = take (2 * i) digits in
    let long : length (set digits (2 * i) a) ≡ length digits = length-set digits (2 * i) a in
    let outer : take (2 * (i + 1)) (set (set digits (2 * i) a) (2 * i + 1) b)
    ≡ take (2 * i + 1) (set digits (2 * i) a) ++ b ∷ [] =
    take-set_at (set digits (2 * i) a) (2 * i + 1) (2 * (i + 1)) b (omega arith) (omega arith) in
    let inner : take (2 * i + 1) (set digits (2 * i) a) ≡ front ++ a ∷ [] =
    take-set_at digits (2 * i) (2 * i + 1) a refl (omega arith) in
    let grown : take (i + 1) bytes ≡ take i bytes ++ x ∷ [] =
    ap (λ n. take n bytes) (add-one i) ∙ take-suc bytes i 0 inside in
    outer ∙ ap (λ l. l ++ b ∷ []) inner ∙ append_assoc front (a ∷ []) (b ∷ [])
    ∙ ap (λ l. l ++ a ∷ b ∷ []) so ∙ same_two (hex (take i bytes)) a b (lower_digit (x / 16)) (lower_digit (x % 16)) first
    second
    ∙ sym (ap hex grown ∙ hex-push (take i bytes) x)
