-- Bytes that pairs of hexadecimal digits spell, one pair after another.
use Rattle.fork_edits.proofs.Cited.{◌≡◌, ◌<◌, ℕ, ◌+◌, ◌*◌, Option, Some, None, List, [], ◌∷◌, ◌++◌, length, take, drop, get_or, refl, sym}
use Rattle.fork_edits.proofs.Cited.{ap, ◌∙◌, arith, append_assoc, append-nil, option_map, drop_more, take_more_set, take-length}
use Rattle.fork_edits.proofs.Cited.{drop-length, before, byte_value, bytes_spelled}
use Rattle.std.proofs.Common.{set}

-- the next pair of digits
pair_next : (text : List ℕ) (i : ℕ) → 2 * i + 1 < length text → drop (2 * i) text
    ≡ get_or text (2 * i) 0 ∷ get_or text (2 * i + 1) 0 ∷ drop (2 * (i + 1)) text
pair_next text i inside =
    let twice : 2 * i + 1 + 1 ≡ 2 * (i + 1) = omega arith in
    drop_more text (2 * i) 0 (omega arith)
    ∙ ap (λ l. get_or text (2 * i) 0 ∷ l) (drop_more text (2 * i + 1) 0 inside
    ∙ ap (λ (n : ℕ). get_or text (2 * i + 1) 0 ∷ drop n text) twice)

-- a pair that spells no byte ends the reading
pub spelled_bad : (text front : List ℕ) (i : ℕ) (total : Option (List ℕ)) → 2 * i + 1 < length text
    → None ≡ byte_value (get_or text (2 * i) 0) (get_or text (2 * i + 1) 0)
    → option_map (λ rest. front ++ rest) (bytes_spelled (drop (2 * i) text)) ≡ total → None ≡ total
spelled_bad text front i total inside none told =
    sym (ap (λ o. option_map (λ rest. front ++ rest) (before o (bytes_spelled (drop (2 * (i + 1)) text)))) (sym none))
    ∙ ap (λ l. option_map (λ rest. front ++ rest) (bytes_spelled l)) (sym (pair_next text i inside)) ∙ told

joined : (front : List ℕ) (b : ℕ) (rest : Option (List ℕ))
    → option_map (λ l. front ++ l) (before (Some b) rest) ≡ option_map (λ l. (front ++ b ∷ []) ++ l) rest
joined front b None = refl
joined front b (Some l) = ap Some (sym (append_assoc front (b ∷ []) l))

-- a pair that spells a byte adds it
pub spelled_good : (text bytes : List ℕ) (i b : ℕ) (total : Option (List ℕ)) → 2 * i + 1 < length text → i < length bytes
    → Some b ≡ byte_value (get_or text (2 * i) 0) (get_or text (2 * i + 1) 0)
    → option_map (λ rest. take i bytes ++ rest) (bytes_spelled (drop (2 * i) text)) ≡ total
    → option_map (λ rest. take (i + 1) (set bytes i b) ++ rest) (bytes_spelled (drop (2 * (i + 1)) text)) ≡ total
spelled_good text bytes i b total inside room some told =
    let rest : Option (List ℕ) = bytes_spelled (drop (2 * (i + 1)) text) in
    ap (λ front. option_map (λ l. front ++ l) rest) (take_more_set bytes i b room)
    ∙ sym (joined (take i bytes) b rest)
    ∙ ap (λ o. option_map (λ l. take i bytes ++ l) (before o rest)) some
    ∙ ap (λ l. option_map (λ r. take i bytes ++ r) (bytes_spelled l)) (sym (pair_next text i inside)) ∙ told

-- after the last pair
pub spelled_all : (text bytes : List ℕ) (n : ℕ) (total : Option (List ℕ)) → length bytes ≡ n → length text ≡ 2 * n
    → option_map (λ rest. take n bytes ++ rest) (bytes_spelled (drop (2 * n) text)) ≡ total → Some bytes ≡ total
spelled_all text bytes n total size long told =
    let none : drop (2 * n) text ≡ [] = ap (λ (k : ℕ). drop k text) (sym long) ∙ drop-length text in
    let whole : take n bytes ≡ bytes = ap (λ (k : ℕ). take k bytes) (sym size) ∙ take-length bytes in
    sym (ap (λ l. option_map (λ rest. take n bytes ++ rest) (bytes_spelled l)) none
    ∙ ap Some (append-nil (take n bytes) ∙ whole)) ∙ told

-- before the first pair
pub spelled_start : (told : Option (List ℕ)) → option_map (λ rest. [] ++ rest) told ≡ told
spelled_start None = refl
spelled_start (Some l) = refl
