use Rattle.heap_calls.proofs.Cited.{◌≡◌, ℕ, ◌+◌, ◌-◌, ◌≤◌, zero, suc, Bool, true, false, List, [], ◌∷◌, ◌++◌, refl, cond, arith, Block}
use Rattle.heap_calls.proofs.Cited.{Free, size, total, may_be_purged, lowest_purged, purge, tidied, Gone, gone_of, gone}

-- What blocks come to, and what a list of those that are purged comes to, by one measure.

-- a list comes to what its parts come to
abbrev pub Adds : (List Gone → ℕ) → Type 0
Adds of = (xs ys : List Gone) → of (xs ++ ys) ≡ of xs + of ys

module _ (n : ℕ) (of : Block → ℕ) (none : (m : ℕ) → of (Free m) ≡ 0) (told : List Gone → ℕ) (nil : told [] ≡ 0)
    (adds : Adds told) (sp : Block → Bool)
  where
    lowest-most : ((b : Block) → may_be_purged sp b ≡ true → told (gone_of n b) ≤ of b) → (k : ℕ) (bs : List Block)
        → total of (lowest_purged k sp bs) + told (gone n k sp bs) ≤ total of bs
    lowest-most goes zero bs = omega (arith, nil)
    lowest-most goes (suc k) [] = omega (arith, nil)
    lowest-most goes (suc k) (b ∷ bs) =
        cases (may_be_purged sp b) refl (lowest-most goes k bs) (lowest-most goes (suc k) bs)
      where
        cases : (t : Bool) → may_be_purged sp b ≡ t
            → total of (lowest_purged k sp bs) + told (gone n k sp bs) ≤ total of bs
            → total of (lowest_purged (suc k) sp bs) + told (gone n (suc k) sp bs) ≤ total of bs
            → total of (cond t (Free (size b) ∷ lowest_purged k sp bs) (b ∷ lowest_purged (suc k) sp bs))
            + told (cond t (gone_of n b ++ gone n k sp bs) (gone n (suc k) sp bs)) ≤ of b + total of bs
        cases true e r r' =
            let g = goes b e in
            omega (arith, none (size b), adds (gone_of n b) (gone n k sp bs))
        cases false e r r' = omega arith

    lowest-least : ((b : Block) → may_be_purged sp b ≡ true → of b ≤ told (gone_of n b)) → (k : ℕ) (bs : List Block)
        → total of bs ≤ total of (lowest_purged k sp bs) + told (gone n k sp bs)
    lowest-least goes zero bs = omega arith
    lowest-least goes (suc k) [] = omega arith
    lowest-least goes (suc k) (b ∷ bs) =
        cases (may_be_purged sp b) refl (lowest-least goes k bs) (lowest-least goes (suc k) bs)
      where
        cases : (t : Bool) → may_be_purged sp b ≡ t
            → total of bs ≤ total of (lowest_purged k sp bs) + told (gone n k sp bs)
            → total of bs ≤ total of (lowest_purged (suc k) sp bs) + told (gone n (suc k) sp bs)
            → of b + total of bs ≤ total of
            (cond t (Free (size b) ∷ lowest_purged k sp bs) (b ∷ lowest_purged (suc k) sp bs))
            + told (cond t (gone_of n b ++ gone n k sp bs) (gone n (suc k) sp bs))
        cases true e r r' =
            let g = goes b e in
            omega (arith, none (size b), adds (gone_of n b) (gone n k sp bs))
        cases false e r r' = omega arith

    -- what is left and what is told of come to no more than all did
    pub purged-most : ((b : Block) → may_be_purged sp b ≡ true → told (gone_of n b) ≤ of b) → (k : ℕ) (bs : List Block)
        → total of (purge k sp bs) + told (gone n k sp bs) ≤ total of bs
    purged-most goes k bs = let l = lowest-most goes k bs in omega (arith, tidied of none (lowest_purged k sp bs))

    -- and to just that
    pub purged-is : ((b : Block) → may_be_purged sp b ≡ true → told (gone_of n b) ≡ of b) → (k : ℕ) (bs : List Block)
        → total of (purge k sp bs) + told (gone n k sp bs) ≡ total of bs
    purged-is goes k bs =
        let l = lowest-most (λ b e. let g = goes b e in omega arith) k bs in
        let m = lowest-least (λ b e. let g = goes b e in omega arith) k bs in
        omega (arith, tidied of none (lowest_purged k sp bs))
