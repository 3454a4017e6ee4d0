use Rattle.list_store.proofs.Cited.{◌≡◌, ℕ, ◌+◌, ◌-◌, ◌<◌, zero, suc, List, [], ◌∷◌, ◌++◌, length, take, drop, refl, sym, ◌∙◌, ap, arith}
use Rattle.list_store.proofs.Cited.{Option, Some, None, append_assoc, subst, none-some, same_Some, option_map, IfSome, Block, tidy, Spot}
use Rattle.list_store.proofs.Cited.{raised, spot_at, StoredBlock, nth_spot, blocks_of}

-- the parts of the spot of an index
pub nth_spot-parts : (i : ℕ) (bs : List Block) (s : Spot) → nth_spot i bs ≡ Some s
    → (take (suc i) bs ≡ s.below ++ s.here ∷ []) × (drop (suc i) bs ≡ s.above)
nth_spot-parts i [] s e = absurd (none-some _ e)
nth_spot-parts zero (b ∷ bs) s e = let same = same_Some _ _ e in
    (ap (λ (s : Spot). s.below ++ s.here ∷ []) same, ap (λ (s : Spot). s.above) same)
nth_spot-parts (suc i) (b ∷ bs) s e = cases (nth_spot i bs) (nth_spot-parts i bs) e
  where
    cases : (o : Option Spot) → ((s : Spot) → o ≡ Some s → (take (suc i) bs ≡ s.below ++ s.here ∷ [])
        × (drop (suc i) bs ≡ s.above)) → option_map (raised b) o ≡ Some s
        → (b ∷ take (suc i) bs ≡ s.below ++ s.here ∷ []) × (drop (suc i) bs ≡ s.above)
    cases None rest e = absurd (none-some _ e)
    cases (Some s') rest e =
        let same = same_Some _ _ e in
        let parts = rest s' refl in (
          ap (λ l. b ∷ l) parts.0 ∙ ap (λ (s : Spot). s.below ++ s.here ∷ []) same,
          parts.1
              ∙ ap (λ (s : Spot). s.above) same,
        )

-- the blocks above an index are changed
pub changed_above : (es es' : List StoredBlock) (place i : ℕ) (change : List Block → List Block) (zone' : List Block)
    → es' ≡ es → (i < length es') × (spot_at place (blocks_of es') ≡ nth_spot i (blocks_of es'))
    → zone' ≡ tidy (take (i + 1) (blocks_of es) ++ change (drop (i + 1) (blocks_of es)))
    → IfSome (spot_at place (blocks_of es)) (λ s. zone' ≡ tidy (s.below ++ s.here ∷ change s.above))
changed_above es es' place i change zone' same found after =
    let spotted : spot_at place (blocks_of es) ≡ nth_spot i (blocks_of es) =
    subst (λ (l : List StoredBlock). spot_at place (blocks_of l) ≡ nth_spot i (blocks_of l)) same found.1 in
    subst (λ (o : Option Spot). IfSome o (λ s. zone' ≡ tidy (s.below ++ s.here ∷ change s.above))) (sym spotted)
    (cases (nth_spot i (blocks_of es)) (nth_spot-parts i (blocks_of es)))
  where
    cases : (o : Option Spot) → ((s : Spot) → o ≡ Some s → (take (suc i) (blocks_of es) ≡ s.below ++ s.here ∷ [])
        × (drop (suc i) (blocks_of es) ≡ s.above)) → IfSome o (λ s. zone' ≡ tidy (s.below ++ s.here ∷ change s.above))
    cases None parts = tt
    cases (Some s) parts =
        let p = parts s refl in
        after ∙ ap (λ n. tidy (take n (blocks_of es) ++ change (drop n (blocks_of es))))
        (let z : i + 1 ≡ suc i = omega arith in z)
        ∙ ap (λ l. tidy (l ++ change (drop (suc i) (blocks_of es)))) p.0
        ∙ ap (λ l. tidy ((s.below ++ s.here ∷ []) ++ change l)) p.1
        ∙ ap tidy (append_assoc s.below (s.here ∷ []) (change s.above))
