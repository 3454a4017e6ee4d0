use Rattle.applications.proofs.Cited.{◌≡◌, ℕ, Bool, true, false, refl, sym, cond, map, List, [], ◌∷◌, bytes_eq, lookup, insert_entry, Label}
use Rattle.applications.proofs.Cited.{bound_to, bind, binding}

-- names are equal where their bytes are
abbrev pub TellsNames : (Label → Label → Bool) → Type 0
TellsNames eq = (a b : Label) → eq a b ≡ bytes_eq a.0.items b.0.items

-- what a map holds at a name is what the name is bound to
pub lookup-bound : (eq : Label → Label → Bool) → TellsNames eq → (name : Label) (es : List (Label × ℕ))
    → lookup (eq name) es ≡ bound_to name.0.items (map binding es)
lookup-bound eq tells name [] = refl
lookup-bound eq tells name (e ∷ es) = rw (tells name e.0, lookup-bound eq tells name es) refl

-- a name put into a map is bound
pub insert-bound : (eq : Label → Label → Bool) → TellsNames eq → (name : Label) (n : ℕ) (es : List (Label × ℕ))
    → map binding (insert_entry eq es name n) ≡ bind name.0.items n (map binding es)
insert-bound eq tells name n [] = refl
insert-bound eq tells name n (e ∷ es) = rw (tells name e.0, sym (insert-bound eq tells name n es))
    (cases (bytes_eq name.0.items e.0.0.items))
  where
    cases : (t : Bool) → map binding (cond t ((e.0, n) ∷ es) (e ∷ insert_entry eq es name n))
        ≡ cond t ((e.0.0.items, n) ∷ map binding es) (binding e ∷ map binding (insert_entry eq es name n))
    cases true = refl
    cases false = refl
