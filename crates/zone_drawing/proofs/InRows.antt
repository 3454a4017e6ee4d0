use Rattle.zone_drawing.proofs.Cited.{◌≡◌, ℕ, Bool, true, false, List, [], ◌∷◌, ◌++◌, refl, ap, ◌∙◌, if◌then◌else◌, append_assoc, bytes_in}
use Rattle.zone_drawing.proofs.Cited.{rows}
use Rattle.zone_drawing.specs.Bytes.{is_full}

-- The bytes of a block, in rows.

abbrev next : List ℕ → ℕ → List ℕ → Bool → List (List ℕ)
next row b bytes full = if full then row ∷ rows (b ∷ []) bytes else rows (row ++ b ∷ []) bytes

all-bytes : (bytes row : List ℕ) → bytes_in (rows row bytes) ≡ row ++ bytes
all-bytes [] row = refl
all-bytes (b ∷ bytes) row = cases (is_full row) (λ other. all-bytes bytes other)
  where
    cases : (full : Bool) → ((other : List ℕ) → bytes_in (rows other bytes) ≡ other ++ bytes)
        → bytes_in (next row b bytes full) ≡ row ++ (b ∷ bytes)
    cases true again = ap (λ x. row ++ x) (again (b ∷ []))
    cases false again = again (row ++ (b ∷ [])) ∙ append_assoc row (b ∷ []) bytes

-- each byte stands in one row, and the rows stand in the order of the bytes
pub each-byte : (bytes : List ℕ) → bytes_in (rows [] bytes) ≡ bytes
each-byte bytes = all-bytes bytes []
