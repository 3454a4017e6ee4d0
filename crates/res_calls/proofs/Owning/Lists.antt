use Rattle.res_calls.proofs.Cited.{◌≡◌, Bool, true, false, List, [], ◌∷◌, ◌++◌, refl, sym, ◌∙◌, ap, cond, Option, Some, None, append_assoc}
use Rattle.res_calls.proofs.Cited.{append-nil, option_to_list}

-- Lists of one item at most.

-- two lists that come to none
pub none-first : {A : Type 0} (a b : List A) → a ++ b ≡ [] → a ≡ []
none-first [] b e = refl
none-first (x ∷ a) b e = cc

pub none-later : {A : Type 0} (a b : List A) → a ++ b ≡ [] → b ≡ []
none-later [] b e = e
none-later (x ∷ a) b e = cc

-- an item of a list of one at most is the only one
pub alone : {A : Type 0} (front back : List A) (x : A) (o : Option A) → front ++ x ∷ back ≡ option_to_list o
    → (front ≡ []) × (back ≡ []) × (o ≡ Some x)
alone [] back x None e = cc
alone [] back x (Some y) e = (refl, cc, cc)
alone (z ∷ front) back x None e = cc
alone (z ∷ front) back x (Some y) e =
    let rest : front ++ x ∷ back ≡ [] = cc in
    let none : x ∷ back ≡ [] = none-later front (x ∷ back) rest in
    cc

-- it goes, if it is there
pub lost : {A : Type 0} (t : Bool) (front back : List A) (x : A) (o : Option A)
    → front ++ (cond t (x ∷ []) [] ++ back) ≡ option_to_list o → front ++ back ≡ option_to_list (cond t None o)
lost true front back x o e =
    let only = alone front back x o e in ap (λ l. l ++ back) only.0 ∙ only.1
lost false front back x o e = e

-- it comes where there was none, if at all
pub won : {A : Type 0} (t : Bool) (front back : List A) (x : A) (o : Option A) → (t ≡ true → o ≡ None)
    → front ++ back ≡ option_to_list o
    → front ++ (cond t (x ∷ []) [] ++ back) ≡ option_to_list (cond t (Some x) o)
won true front back x o free e =
    let none : front ++ back ≡ [] = e ∙ ap option_to_list (free refl) in
    ap (λ l. l ++ x ∷ back) (none-first front back none) ∙ ap (λ l. x ∷ l) (none-later front back none)
won false front back x o free e = e

-- lists one after another, taken together in another way
pub one-more : {A : Type 0} (front mine back : List A) → (front ++ (mine ++ [])) ++ back ≡ front ++ (mine ++ back)
one-more front mine back = ap (λ l. (front ++ l) ++ back) (append-nil mine) ∙ append_assoc front mine back

pub inner : {A : Type 0} (a b mine c d : List A) → a ++ ((b ++ (mine ++ c)) ++ d) ≡ (a ++ b) ++ (mine ++ (c ++ d))
inner a b mine c d =
    ap (λ l. a ++ l) (append_assoc b (mine ++ c) d ∙ ap (λ l. b ++ l) (append_assoc mine c d))
    ∙ sym (append_assoc a b (mine ++ (c ++ d)))
