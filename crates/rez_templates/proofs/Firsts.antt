-- The first of some.
use Rattle.rez_templates.proofs.Cited.{◌≡◌, ℕ, List, length, map, take, min, ap, ◌∙◌, sym, take_min, take-map}

pub first_are : {X Y : Type 0} (f : X → Y) (n : ℕ) (xs : List X) (ys : List Y) → map f xs ≡ ys
    → map f (take (min n (length xs)) xs) ≡ take n ys
first_are f n xs ys h = ap (map f) (take_min n xs) ∙ sym (take-map f n xs) ∙ ap (take n) h
