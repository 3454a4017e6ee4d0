-- The last declaration of a type, by its place.
use Rattle.rez_statements.proofs.Cited.{◌≡◌, ◌==◌, ◌<◌, ◌≤◌, ℕ, zero, suc, Bool, true, false, cond, Option, Some, None, List, [], ◌∷◌, ◌++◌}
use Rattle.rez_statements.proofs.Cited.{length, map, slice_get, get_or, refl, sym, ap, ◌∙◌, subst, arith, nat_cmp, is_eq, nat_tests}
use Rattle.rez_statements.proofs.Cited.{slice_get_read, slice_get_past, Declaration, DeclaredType, last_place, in_force, declared_of}
use Rattle.rez_statements.proofs.Cited.{shared}

-- a declaration more
push : (q : ℕ) (xs : List DeclaredType) (x : DeclaredType)
    → last_place q (xs ++ x ∷ []) ≡ cond (x.kind == q) (Some (length xs)) (last_place q xs)
push q [] x = refl
push q (y ∷ ys) x =
    ap (λ (o : Option ℕ). elim o [ None ↦ cond (y.kind == q) (Some zero) None | Some place ↦ Some (suc place) ]) (push q ys x)
    ∙ cases (x.kind == q)
  where
    cases : (b : Bool)
        → elim (cond b (Some (length ys)) (last_place q ys)) [
          | None ↦ cond (y.kind == q) (Some zero) None
          | Some place ↦ Some (suc place)
        ]
        ≡ cond b (Some (length (y ∷ ys))) (last_place q (y ∷ ys))
    cases true = refl
    cases false = refl

pub last-push : (kind q n : ℕ) (xs : List DeclaredType) (x : DeclaredType) → x.kind ≡ kind → n ≡ length xs
    → cond (is_eq (nat_cmp kind q)) (Some n) (last_place q xs) ≡ last_place q (xs ++ x ∷ [])
last-push kind q n xs x its size =
    let order : is_eq (nat_cmp kind q) ≡ (kind == q) = grind (arith, nat_tests) in
    let of : is_eq (nat_cmp kind q) ≡ (x.kind == q) = order ∙ ap (λ k. k == q) (sym its) in
    ap (λ b. cond b (Some n) (last_place q xs)) of ∙ ap (λ m. cond (x.kind == q) (Some m) (last_place q xs)) size
    ∙ sym (push q xs x)

-- what is in force, by its place
abbrev pub InForce : ℕ → List DeclaredType → Option ℕ → Type 0
InForce kind xs None = in_force kind (map declared_of xs) ≡ None
InForce kind xs (Some place) =
    (x : DeclaredType) × (slice_get xs place ≡ Some x) × (in_force kind (map declared_of xs) ≡ Some (shared x.declaration))

pub in-force : (kind : ℕ) (xs : List DeclaredType) → InForce kind xs (last_place kind xs)
in-force kind [] = refl
in-force kind (y ∷ ys) = cases (last_place kind ys) (in-force kind ys)
  where
    later : Option Declaration → Option Declaration
    later o = elim o [ None ↦ cond (y.kind == kind) (Some (shared y.declaration)) None | Some d ↦ Some d ]

    here : (b : Bool) → b ≡ (y.kind == kind) → in_force kind (map declared_of ys) ≡ None
        → InForce kind (y ∷ ys) (cond b (Some zero) None)
    here true is none = (y, refl, rw none (rw (sym is) refl))
    here false is none = rw none (rw (sym is) refl)

    cases : (o : Option ℕ) → InForce kind ys o
        → InForce kind (y ∷ ys) (elim o [ None ↦ cond (y.kind == kind) (Some zero) None | Some place ↦ Some (suc place) ])
    cases None none = here (y.kind == kind) refl none
    cases (Some place) (x, at, is) = (x, at, rw is refl)

pub found : (kind place : ℕ) (xs ys : List DeclaredType) (x : DeclaredType) → Some place ≡ last_place kind xs → ys ≡ xs
    → place < length ys → x ≡ get_or ys place x → Some (shared x.declaration) ≡ in_force kind (map declared_of xs)
found kind place xs ys x last lent within read =
    let h : InForce kind xs (Some place) = subst (InForce kind xs) (sym last) (in-force kind xs) in
    let met : Some x ≡ Some h.0 =
    sym (slice_get_read ys (length ys) place x refl within read) ∙ ap (λ l. slice_get l place) lent ∙ h.1 in
    let same : x ≡ h.0 = cc in
    ap (λ (y : DeclaredType). Some (shared y.declaration)) same ∙ sym h.2

pub found-none : (kind : ℕ) (xs : List DeclaredType) → None ≡ last_place kind xs
    → None ≡ in_force kind (map declared_of xs)
found-none kind xs last = sym (subst (InForce kind xs) (sym last) (in-force kind xs))

pub found-nowhere : {A : Type 0} (kind place : ℕ) (xs ys : List DeclaredType) → Some place ≡ last_place kind xs → ys ≡ xs
    → length ys ≤ place → A
found-nowhere kind place xs ys last lent past =
    let h : InForce kind xs (Some place) = subst (InForce kind xs) (sym last) (in-force kind xs) in
    let met : None ≡ Some h.0 = sym (slice_get_past ys place past) ∙ ap (λ l. slice_get l place) lent ∙ h.1 in
    absurd (cc)
