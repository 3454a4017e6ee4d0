-- Cutting a text into lines.
use Rattle.script_text.proofs.Cited.{◌≡◌, ℕ, ◌+◌, ◌-◌, ◌<◌, Bool, true, false, List, [], ◌∷◌, Some, None, refl, sym, ap, ◌∙◌, length, take}
use Rattle.script_text.proofs.Cited.{drop, cond, arith, slice_split, onto_first, position_or_len, position, position_from, lines}
use Rattle.script_text.proofs.Cited.{strip_carriage_return, slice_split_first, position_from-zero, common_steps}
use Rattle.std.proofs.Common.{◌==◌}

-- a line ends here
abbrev ends : ℕ → Bool
ends b = b == 10

-- a split has a part at least
some_part : (p : ℕ → Bool) (xs : List ℕ) → (y : List ℕ) × (more : List (List ℕ)) × (slice_split p xs ≡ y ∷ more)
some_part p [] = ([], [], refl)
some_part p (x ∷ xs) =
    let t = some_part p xs in
    elim (p x) as (λ b. (y : List ℕ) × (more : List (List ℕ))
    × (cond b ([] ∷ slice_split p xs) (onto_first x (slice_split p xs)) ≡ y ∷ more)) [
      | true ↦ ([], slice_split p xs, refl)
      | false ↦ (x ∷ t.0, t.1, ap (onto_first x) t.2)
    ]

-- where no byte passes, there is one part
whole_from : (p : ℕ → Bool) (i : ℕ) (xs : List ℕ) → None ≡ position_from p i xs → slice_split p xs ≡ xs ∷ []
whole_from p i [] h = refl
whole_from p i (x ∷ xs) h =
    let go : (b : Bool) → p x ≡ b → None ≡ cond b (Some i) (position_from p (i + 1) xs)
    → cond b ([] ∷ slice_split p xs) (onto_first x (slice_split p xs)) ≡ (x ∷ xs) ∷ [] =
    λ b. elim b as (λ v. p x ≡ v → None ≡ cond v (Some i) (position_from p (i + 1) xs)
    → cond v ([] ∷ slice_split p xs) (onto_first x (slice_split p xs)) ≡ (x ∷ xs) ∷ []) [
      | true ↦ λ e k. absurd (cc)
      | false ↦ λ e k. ap (onto_first x) (whole_from p (i + 1) xs k)
    ] in
    go (p x) refl h

-- where the first byte that passes stands
found_from : (b : Bool) (n m : ℕ) → Some n ≡ cond b (Some m) None → (b ≡ true) × (n ≡ m)
found_from true n m h = (refl, cc)
found_from false n m h = absurd (cc)

-- the first line ends at the first LF, and the other lines follow it
pub cut_line : (text : List ℕ) (n : ℕ) → Some n ≡ position ends text
    → lines text ≡ strip_carriage_return (take n text) ∷ lines (drop (n + 1) text)
cut_line text n h =
    let f = found_from _ n (position_or_len ends text) h in
    let within : position_or_len ends text < length text = grind (arith, f.0) in
    let s = slice_split_first ends text 0 within in
    let t = some_part ends (drop (n + 1) text) in
    rw (s, sym f.1, t.2) refl

-- a text without LF is one line
pub last_line : (text : List ℕ) → 0 < length text → None ≡ position ends text → lines text ≡ text ∷ []
last_line [] some h = absurd (omega arith)
last_line (x ∷ xs) some h = let some_bytes : (length (x ∷ xs) == 0)
    ≡ false = grind arith in rw (whole_from ends 0 (x ∷ xs) (h ∙ position_from-zero ends (x ∷ xs)), some_bytes) refl

-- nothing is behind the end
pub at_end : (text : List ℕ) → take (length text - length text) (drop (length text) text) ≡ []
at_end text = grind (arith, common_steps)
