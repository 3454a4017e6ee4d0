-- Tests over the values of a list.
use Rattle.rez_types.proofs.Cited.{◌≡◌, ℕ, Bool, not, cond, ◌||◌, Option, Some, None, nat_lt, List, [], ◌∷◌, map, refl, ap, ap₂, length-map}
use Rattle.rez_types.proofs.Cited.{list_any, position, prefix_len-map}

pub any_map : {X Y : Type 0} (f : X → Y) (p : Y → Bool) (xs : List X) → list_any p (map f xs) ≡ list_any (λ x. p (f x)) xs
any_map f p [] = refl
any_map f p (x ∷ xs) = ap (λ r. p (f x) || r) (any_map f p xs)

-- the place as it is found from a number and a length
found : ℕ → ℕ → Option ℕ
found at size = cond (nat_lt at size) (Some at) None

pub position_map : {X Y : Type 0} (f : X → Y) (p : Y → Bool) (xs : List X) → position p (map f xs) ≡ position (λ x. p (f x)) xs
unfolding found
position_map f p xs = ap₂ found (prefix_len-map f (λ y. not (p y)) xs) (length-map xs f)
