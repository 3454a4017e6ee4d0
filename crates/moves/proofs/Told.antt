use Rattle.moves.proofs.Cited.{◌≡◌, ℕ, ◌+◌, ◌≤◌, Bool, true, false, not, List, [], ◌∷◌, length, refl, ap, cond, arith, cond-true, and_parts}
use Rattle.moves.proofs.Cited.{bytes_eq-Decides, bytes_eq, Block, total, is_relocatable, is_purgeable, content_of, may_be_purged, bytes_in}
use Rattle.moves.proofs.Cited.{Move, did}
use Rattle.moves.proofs.Conserved.{put_on, PathWeighs, conserved, only-purgeable}

-- What a path purges of a handle is what goes: the handle's block, where it has none afterwards, and else nothing.

-- what bytes come to, and what a handle's block comes to by its bytes
abbrev pub weight : (List ℕ → ℕ) → List (List ℕ) → ℕ
weight f [] = 0
weight f (x ∷ xs) = f x + weight f xs

abbrev pub by_bytes : (List ℕ → ℕ) → ℕ → Block → ℕ
by_bytes f h b = cond (is_relocatable h b) (f (content_of b)) 0

pub weighed : (f : List ℕ → ℕ) (h : ℕ) (bs : List Block) → total (by_bytes f h) bs ≡ weight f (bytes_in h bs)
weighed f h [] = refl
weighed f h (b ∷ bs) = cases (is_relocatable h b) (weighed f h bs)
  where
    cases : (t : Bool) → total (by_bytes f h) bs ≡ weight f (bytes_in h bs)
        → cond t (f (content_of b)) 0 + total (by_bytes f h) bs
        ≡ weight f (cond t (content_of b ∷ bytes_in h bs) (bytes_in h bs))
    cases true r = omega arith
    cases false r = omega arith

-- where there was one at most, it stays or goes
abbrev pub unless_left : List (List ℕ) → List (List ℕ) → List (List ℕ)
unless_left [] before = before
unless_left (x ∷ after) before = []

only-one : (after gone before : List (List ℕ))
    → ((f : List ℕ → ℕ) → weight f after + weight f gone ≡ weight f before) → length before ≤ 1
    → gone ≡ unless_left after before
only-one [] [] [] all one = refl
only-one [] (y ∷ gone) [] all one = absurd (let e = all (λ z. 1) in omega arith)
only-one [] [] (x ∷ before) all one = absurd (let e = all (λ z. 1) in omega arith)
only-one [] (y ∷ z ∷ gone) (x ∷ []) all one = absurd (let e = all (λ z. 1) in omega arith)
only-one [] (y ∷ []) (x ∷ []) all one =
    ap (λ (z : List ℕ). z ∷ []) (same (bytes_eq y x) refl (let e = all differs in let o = own in omega arith))
  where
    differs : List ℕ → ℕ
    differs z = cond (bytes_eq z x) 0 1

    own : cond {A = ℕ} (bytes_eq x x) 0 1 ≡ 0
    own = cond-true (bytes_eq x x) 0 1 ((bytes_eq-Decides x x).1 refl)

    same : (t : Bool) → bytes_eq y x ≡ t → cond {A = ℕ} t 0 1 ≤ 0 → y ≡ x
    same true e le = (bytes_eq-Decides y x).0 e
    same false e le = absurd (let f : 1 ≤ 0 = le in omega arith)
only-one [] gone (x ∷ w ∷ before) all one = absurd (omega arith)
only-one (a ∷ after) [] before all one = refl
only-one (a ∷ after) (y ∷ gone) before all one =
    absurd (let e = all (λ z. 1) in let o = many before one in omega arith)
  where
    many : (xs : List (List ℕ)) → length xs ≤ 1 → weight (λ z. 1) xs ≤ 1
    many [] le = omega arith
    many (x ∷ []) le = omega arith
    many (x ∷ w ∷ xs) le = absurd (omega arith)

module _ (spared : Block → Bool) (h : ℕ) (path : List Move) (zone : List Block)
  where
    pub told-lost : length (bytes_in h zone) ≤ 1 → ((f : List ℕ → ℕ) → put_on (by_bytes f h) path ≡ 0)
        → ((f : List ℕ → ℕ) → PathWeighs (by_bytes f h) spared path zone)
        → bytes_in h (did spared path zone).gone ≡ unless_left (bytes_in h (did spared path zone).zone) (bytes_in h zone)
    told-lost one puts weighs =
        let d = did spared path zone in
        only-one (bytes_in h d.zone) (bytes_in h d.gone) (bytes_in h zone)
        (λ f. omega (
          arith,
          conserved (by_bytes f h) (λ n. refl) spared path (puts f) zone (weighs f),
          weighed f h d.zone,
          weighed f h d.gone,
          weighed f h zone,
        )) one

    -- of a handle that is spared nothing goes
    pub spared-stays : ((b : Block) → is_relocatable h b ≡ true → spared b ≡ true)
        → bytes_in h (did spared path zone).gone ≡ []
    spared-stays spares = none (bytes_in h (did spared path zone).gone) (omega (
      arith,
      only-purgeable (by_bytes (λ x. 1) h) (λ n. refl) spared stays path zone,
      weighed (λ x. 1) h (did spared path zone).gone,
    ))
      where
        none : (xs : List (List ℕ)) → weight (λ x. 1) xs ≤ 0 → xs ≡ []
        none [] le = refl
        none (x ∷ xs) le = absurd (omega arith)

        stays : (b : Block) → may_be_purged spared b ≡ true → by_bytes (λ x. 1) h b ≡ 0
        stays b goes = cases (is_relocatable h b) (spared b) (spares b) (and_parts (is_purgeable b) (not (spared b)) goes).1
          where
            cases : (t u : Bool) → (t ≡ true → u ≡ true) → not u ≡ true → cond {A = ℕ} t 1 0 ≡ 0
            cases false u spares e = refl
            cases true true spares e = let f : false ≡ true = e in cc
            cases true false spares e = let f : false ≡ true = spares refl in cc
