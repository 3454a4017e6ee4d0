use Rattle.std.proofs.Common.{◌≡◌, ◌∙◌, ◌+◌, ◌<◌, ℕ, true, false, refl, sym, ap, List, ◌∷◌, length, drop, get_or, Result, Ok, Err}
use Rattle.std.proofs.Common.{Option, Some, None, is_some}
use Rattle.std.proofs.lemmas.List.{drop_more}
use Rattle.std.specs.Option.{option_map}
use Rattle.std.specs.Result.{OnErr}

-- Plain lemmas, on lists, on whether there is a value, and on results.

-- what is left of a list, behind its next element
pub rest-next : {X : Type 0} (xs : List X) (i : ℕ) (x : X) → i < length xs → x ≡ get_or xs i x
    → drop i xs ≡ x ∷ drop (i + 1) xs
rest-next xs i x more is = drop_more xs i x more ∙ ap (λ y. y ∷ drop (i + 1) xs) (sym is)

-- what is made of a value doesn't say whether it is there
pub is_some-map : {A B : Type 0} (f : A → B) (o : Option A) → is_some (option_map f o) ≡ is_some o
is_some-map f None = refl
is_some-map f (Some x) = refl

-- what isn't there is none
pub not_some : {A : Type 0} (o : Option A) → is_some o ≡ false → o ≡ None
not_some None e = refl
not_some (Some x) e = let f : true ≡ false = e in cc

-- what holds in any case holds where there is an error
pub on_err : {T E : Type 0} (result : Result T E) (P : Type 0) → P → OnErr result P
on_err (Ok value) P so = tt
on_err (Err fault) P so = so
