use Rattle.res_map.proofs.Cited.{◌≤◌, ◌<◌, ℕ, Bool, true, false, List, [], ◌∷◌, length, map, arith, cond, is_of, of_type, view_reference}
use Rattle.res_map.proofs.Cited.{StoredReference}
use Rattle.std.proofs.Common.{◌^◌}

-- No more references are of a type than there are.

of-type-short : (kind : ℕ) (refs : List StoredReference)
    → length (of_type kind (map view_reference refs)) ≤ length refs
of-type-short kind [] = omega arith
of-type-short kind (r ∷ refs) = by_test (of-type-short kind refs) (is_of kind (view_reference r))
  where
    by_test : length (of_type kind (map view_reference refs)) ≤ length refs → (t : Bool)
        → length (cond t (view_reference r ∷ of_type kind (map view_reference refs))
        (of_type kind (map view_reference refs))) ≤ length (r ∷ refs)
    by_test short true = omega arith
    by_test short false = omega arith

pub count_fits : (kind : ℕ) (refs : List StoredReference) → length refs < 2 ^ 63
    → length (of_type kind (map view_reference refs)) < 2 ^ 63
count_fits kind refs fits = let short = of-type-short kind refs in omega arith
