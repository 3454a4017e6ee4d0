use Rattle.heap_calls.proofs.Cited.{◌≡◌, ℕ, ◌+◌, ◌-◌, ◌≤◌, ◌==◌, Bool, true, false, List, [], ◌∷◌, ◌++◌, length, take, drop, refl, sym, ◌∙◌}
use Rattle.heap_calls.proofs.Cited.{ap, arith, cond, Option, Some, None, nat_le, replicate, and_parts, leb-true, same_Some, length-drop}
use Rattle.heap_calls.proofs.Cited.{length-append, length-take, take-append-le, take-take, drop_of_length-le, min, bytes_eq, written}
use Rattle.heap_calls.proofs.Cited.{resized_content, length-resized, Target, Like, Many, occurrence, begins, first_from, found_at, found_in}
use Rattle.heap_calls.proofs.Cited.{behind, munged, Occurrence}
use Rattle.std.proofs.lemmas.List.{append_assoc, append-nil}

-- What Munger finds in the bytes of a block.

begins-within : (x bytes : List ℕ) → begins x bytes ≡ true → length x ≤ length bytes
begins-within x bytes e =
    leb-true (length x) (length bytes) (and_parts (nat_le (length x) (length bytes)) (bytes_eq (take (length x) bytes) x) e).0

-- bytes like x end within the bytes
pub first-within : (n : ℕ) (x bytes : List ℕ) (at : ℕ) → first_from n x bytes ≡ Some at
    → at + length x ≤ n + length bytes × n ≤ at
first-within n x [] at e = cases (begins x []) refl e
  where
    cases : (t : Bool) → begins x [] ≡ t → cond t (Some n) None ≡ Some at → at + length x ≤ n + 0 × n ≤ at
    cases true is e = let w = begins-within x [] is in let same : n ≡ at = same_Some _ _ e in (omega arith, omega arith)
    cases false is e = cc
first-within n x (b ∷ bytes) at e = cases (begins x (b ∷ bytes)) refl (first-within (n + 1) x bytes at) e
  where
    cases : (t : Bool) → begins x (b ∷ bytes) ≡ t
        → (first_from (n + 1) x bytes ≡ Some at → at + length x ≤ n + 1 + length bytes × n + 1 ≤ at)
        → cond t (Some n) (first_from (n + 1) x bytes) ≡ Some at → at + length x ≤ n + length (b ∷ bytes) × n ≤ at
    cases true is rest e =
        let w = begins-within x (b ∷ bytes) is in let same : n ≡ at = same_Some _ _ e in (omega arith, omega arith)
    cases false is rest e = let w = rest e in
        let l : length (b ∷ bytes) ≡ length bytes + 1 = omega arith in (omega (arith, w.0), omega (arith, w.1))

-- what is found ends within the bytes
pub found-within : (old : Target) (i : ℕ) (bytes : List ℕ) (f : Occurrence) → i ≤ length bytes → found_in old i bytes ≡ Some f
    → f.at + f.count ≤ length bytes
found-within (Many n) i bytes f fits e =
    let same : occurrence i (min n (length bytes - i)) ≡ f = same_Some _ _ e in
    let at : i ≡ f.at = ap (λ (s : Occurrence). s.at) same in
    let count : min n (length bytes - i) ≡ f.count = ap (λ (s : Occurrence). s.count) same in
    omega arith
found-within (Like x) i bytes f fits e = cases (first_from i x (drop i bytes)) refl e
  where
    rest : length (drop i bytes) ≡ length bytes - i
    rest = length-drop i bytes

    at_end : (t u : Bool) → cond t None (cond u (Some (occurrence i (length (drop i bytes)))) None) ≡ Some f
        → f.at + f.count ≤ length bytes
    at_end true u e = cc
    at_end false true e =
        let same : occurrence i (length (drop i bytes)) ≡ f = same_Some _ _ e in
        let at : i ≡ f.at = ap (λ (s : Occurrence). s.at) same in
        let count : length (drop i bytes) ≡ f.count = ap (λ (s : Occurrence). s.count) same in
        omega (arith, rest)
    at_end false false e = cc

    cases : (o : Option ℕ) → first_from i x (drop i bytes) ≡ o → found_at o x i (drop i bytes) ≡ Some f
        → f.at + f.count ≤ length bytes
    cases None is e = at_end (length (drop i bytes) == 0) (begins (drop i bytes) x) e
    cases (Some at) is e =
        let same : occurrence at (length x) ≡ f = same_Some _ _ e in
        let here : at ≡ f.at = ap (λ (s : Occurrence). s.at) same in
        let count : length x ≡ f.count = ap (λ (s : Occurrence). s.count) same in
        let w = first-within i x (drop i bytes) at is in
        omega (arith, rest, w.0)

-- the bytes that are written, with those behind them, end where the block does
pub behind-fits : (f : Occurrence) (x bytes : List ℕ) → f.at + f.count ≤ length bytes
    → f.at + length (x ++ behind f bytes) ≡ length bytes - f.count + length x
behind-fits f x bytes fits = omega (arith, length-append x (behind f bytes), length-drop (f.at + f.count) bytes)

-- they are the bytes that Munger leaves
pub written-munged : (f : Occurrence) (x bytes : List ℕ) → f.at + f.count ≤ length bytes
    → written f.at (x ++ behind f bytes) (resized_content (length bytes - f.count + length x) bytes)
    ≡ munged (Some f) x bytes
written-munged f x bytes fits = ap (λ (l : List ℕ). take f.at sized ++ (x ++ behind f bytes) ++ l) past
    ∙ append-nil (take f.at sized ++ (x ++ behind f bytes))
    ∙ ap (λ (l : List ℕ). l ++ (x ++ behind f bytes)) front
    ∙ sym (append_assoc (take f.at bytes) x (behind f bytes))
  where
    n : ℕ
    n = length bytes - f.count + length x

    sized : List ℕ
    sized = resized_content n bytes

    past : drop (f.at + length (x ++ behind f bytes)) sized ≡ []
    past = drop_of_length-le sized (omega (arith, behind-fits f x bytes fits, length-resized n bytes))

    front : take f.at sized ≡ take f.at bytes
    front = take-append-le f.at (take n bytes) (replicate (n - length bytes) 0) (cut (nat_le n (length bytes)) refl)
        ∙ take-take f.at n bytes (omega arith)
      where
        cut : (t : Bool) → nat_le n (length bytes) ≡ t → f.at ≤ length (take n bytes)
        cut t e = omega (arith, length-take n bytes)
