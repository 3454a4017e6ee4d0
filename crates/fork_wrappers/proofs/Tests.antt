use Rattle.fork_wrappers.proofs.Cited.{◌≡◌, ℕ, Bool, true, false, cond, List, refl, Result, Ok, Err}

-- a test that did not refuse
pub went_on : {F : Type 0} (t : Bool) (why : F) (rest : Result (List ℕ) F) (made : List ℕ) → cond t (Err why) rest ≡ Ok made
    → (t ≡ false) × (rest ≡ Ok made)
went_on true why rest made h = cc
went_on false why rest made h = (refl, h)
