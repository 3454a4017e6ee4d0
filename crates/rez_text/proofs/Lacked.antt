-- The names of the files that are not given.
use Rattle.rez_text.proofs.Cited.{◌≡◌, ◌<◌, ℕ, Ok, Err, List, [], ◌∷◌, length, drop, refl, sym, arith, drop-map, Content, FileName}
use Rattle.rez_text.proofs.Cited.{names_of, Lacking, unless_lacking}

-- names of those that are left
pub names_left : (n : ℕ) (names : List FileName) → names_of (drop n names) ≡ drop n (names_of names)
names_left n names = sym (drop-map (λ (name : FileName). name.bytes.items) n names)

pub none_left : (names : List FileName) (c : Content) → length names ≡ 0 → unless_lacking (names_of names) c ≡ Ok c
none_left [] c none = refl
none_left (name ∷ names) c none = absurd (omega arith)

pub some_left : (names : List FileName) (c : Content) → 0 < length names
    → unless_lacking (names_of names) c ≡ Err (Lacking (names_of names))
some_left [] c some = absurd (omega arith)
some_left (name ∷ names) c some = refl
