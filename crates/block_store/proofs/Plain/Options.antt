use Rattle.block_store.proofs.Cited.{◌≡◌, true, false, Option, Some, None, ℕ, refl, sym, ◌∙◌, ap, same_Some, option_map, IsSome, IsSomeAnd}
use Rattle.block_store.proofs.Cited.{IfSome, MatchOption}

-- Whether there is a value.

pub map-none : {A B : Type 0} (f : A → B) (o : Option A) → option_map f o ≡ None → o ≡ None
map-none f None e = refl
map-none f (Some x) e = cc

-- a value that is there, with what is known of it
pub some_and : {A : Type 0} (o : Option A) (P : A → Type 0) → IsSomeAnd o P → (x : A) × (o ≡ Some x) × P x
some_and None P p = absurd p
some_and (Some x) P p = (x, refl, p)

pub some_there : {A : Type 0} (o : Option A) (Q : A → Type 0) → IsSome o → IfSome o Q → (x : A) × (o ≡ Some x) × Q x
some_there None Q p q = let f : false ≡ true = p in cc
some_there (Some x) Q p q = (x, refl, q)

pub the_some : {A : Type 0} (o : Option A) (P Q : A → Type 0) → IsSomeAnd o P → IfSome o Q → (x : A) × (o ≡ Some x)
    × P x × Q x
the_some None P Q p q = absurd p
the_some (Some x) P Q p q = (x, refl, p, q)

-- what is found has its place
pub has_place : {A : Type 0} (below : A → ℕ) (at : ℕ → Option A) (o : Option A)
    → ((x : A) → o ≡ Some x → at (below x) ≡ Some x) → (r : Option ℕ) → r ≡ option_map below o
    → MatchOption r (o ≡ None) (λ place. (x : A) × (o ≡ Some x) × (at place ≡ Some x) × (below x ≡ place))
has_place below at None stands None is = refl
has_place below at None stands (Some place) is = cc
has_place below at (Some x) stands None is = cc
has_place below at (Some x) stands (Some place) is =
    let same : place ≡ below x = same_Some _ _ is in
    (x, refl, ap at same ∙ stands x refl, sym same)
