use Rattle.fork_rules.proofs.Cited.{◌≡◌, ℕ, Bool, true, false, cond, List, ◌++◌, Result, Ok, Err, refl, sym, ◌∙◌, ap, OnOk, codes, is_ok}
use Rattle.fork_rules.proofs.Cited.{canon, fits, Content, Region, differences, accepted_text, form_text}

-- What a fork is, in words, by whether its content fits.

pub on_ok : {A E : Type 0} {P Q : Type 0} (r : Result A E) → (P → Q) → OnOk r P → OnOk r Q
on_ok (Ok x) f p = f p
on_ok (Err e) f p = p

pub on_cond : {A E : Type 0} (r : Result A E) (new longer same : List ℕ) → new ≡ cond (is_ok r) longer same
    → OnOk r (new ≡ longer)
on_cond (Ok x) new longer same e = e
on_cond (Err x) new longer same e = tt

here : (t : Bool) (xs ys : List ℕ) → t ≡ true → cond t xs ys ≡ xs
here true xs ys h = refl
here false xs ys h = cc

past : (t : Bool) (xs ys : List ℕ) → t ≡ false → cond t xs ys ≡ ys
past false xs ys h = refl
past true xs ys h = cc

pub formed : (c : Content) (bytes text new : List ℕ) (found regions : List Region) → fits c ≡ true → found ≡ regions
    → regions ≡ differences bytes (canon c) → new ≡ text ++ accepted_text found → new ≡ text ++ form_text c bytes
formed c bytes text new found regions low same is e = e ∙ ap (λ l. text ++ accepted_text l) (same ∙ is)
    ∙ ap (λ l. text ++ l) (sym (here (fits c) (accepted_text (differences bytes (canon c))) (codes "accepted: no canonical fork") low))

pub unformed : (c : Content) (bytes text new : List ℕ) → fits c ≡ false
    → new ≡ text ++ codes "accepted: no canonical fork" → new ≡ text ++ form_text c bytes
unformed c bytes text new high e = e
    ∙ ap (λ l. text ++ l) (sym (past (fits c) (accepted_text (differences bytes (canon c))) (codes "accepted: no canonical fork") high))
