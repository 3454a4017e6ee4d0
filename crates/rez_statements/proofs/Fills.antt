-- The tokens of a declaration.
use Rattle.rez_statements.proofs.Cited.{◌≡◌, Bool, true, false, cond, List, [], ◌∷◌, map, refl, ap, filter}

-- what is left of what is seen is what is seen of what is left
pub map-filter : {X Y : Type 0} (of : X → Y) (test : Y → Bool) (xs : List X)
    → map of (filter (λ x. test (of x)) xs) ≡ filter test (map of xs)
map-filter of test [] = refl
map-filter of test (x ∷ xs) = cases (test (of x)) (map-filter of test xs)
  where
    cases : (b : Bool) → map of (filter (λ y. test (of y)) xs) ≡ filter test (map of xs)
        → map of (cond b (x ∷ filter (λ y. test (of y)) xs) (filter (λ y. test (of y)) xs))
        ≡ cond b (of x ∷ filter test (map of xs)) (filter test (map of xs))
    cases true rest = ap (λ l. of x ∷ l) rest
    cases false rest = rest
