use Rattle.real_zone.proofs.Cited.{◌≡◌, true, false, ◌&&◌, List, [], ◌∷◌, ◌++◌, Option, Some, None, refl, map, option_to_list, option_or}
use Rattle.real_zone.proofs.Cited.{first, is_empty}

-- The first of a list.

-- of one list after another
pub first-append : {A : Type 0} (xs ys : List A) → option_or (first xs) (first ys) ≡ first (xs ++ ys)
first-append [] ys = refl
first-append (x ∷ xs) ys = refl

pub first-append_some : {A : Type 0} (xs ys : List A) (d : A) → Some d ≡ first xs → Some d ≡ first (xs ++ ys)
first-append_some [] ys d h = cc
first-append_some (x ∷ xs) ys d h = h

-- of nothing
pub nothing : {A : Type 0} (xs : List A) → None ≡ first xs → xs ≡ []
nothing [] h = refl
nothing (x ∷ xs) h = cc

-- of three things that may be there
pub first_of_options : {A : Type 0} (a b c : Option A)
    → option_or (option_or a b) c ≡ first (option_to_list a ++ option_to_list b ++ option_to_list c)
first_of_options (Some x) b c = refl
first_of_options None (Some y) c = refl
first_of_options None None (Some z) = refl
first_of_options None None None = refl

-- of what a function makes of a list
pub first-map_some : {A B : Type 0} (f : A → B) (xs : List A) (x : A) → Some x ≡ first xs → Some (f x) ≡ first (map f xs)
first-map_some f [] x h = cc
first-map_some f (y ∷ xs) x h = cc

pub first-map_none : {A B : Type 0} (f : A → B) (xs : List A) → None ≡ first xs → None ≡ first (map f xs)
first-map_none f [] h = refl
first-map_none f (y ∷ xs) h = cc

pub map-nothing : {A B : Type 0} (f : A → B) (xs : List A) → map f xs ≡ [] → xs ≡ []
map-nothing f [] h = refl
map-nothing f (y ∷ xs) h = cc

-- a list that has nothing
pub empty : {A : Type 0} (xs : List A) → is_empty xs ≡ true → xs ≡ []
empty [] h = refl
empty (x ∷ xs) h = cc

pub empty_if_none : {A : Type 0} (xs : List A) → None ≡ first xs → is_empty xs ≡ true
empty_if_none [] h = refl
empty_if_none (x ∷ xs) h = cc

pub full_if_some : {A : Type 0} (xs : List A) (x : A) → first xs ≡ Some x → is_empty xs ≡ false
full_if_some [] x h = cc
full_if_some (y ∷ xs) x h = refl

pub is_empty-append : {A : Type 0} (xs ys : List A) → is_empty (xs ++ ys) ≡ (is_empty xs && is_empty ys)
is_empty-append [] ys = refl
is_empty-append (x ∷ xs) ys = refl

pub is_empty-map : {A B : Type 0} (f : A → B) (xs : List A) → is_empty (map f xs) ≡ is_empty xs
is_empty-map f [] = refl
is_empty-map f (x ∷ xs) = refl
