use Rattle.list_store.proofs.Cited.{◌≡◌, ℕ, ◌+◌, ◌-◌, zero, suc, List, [], ◌∷◌, take, drop, length, ◌≤◌, subst, sym, ◌∙◌, ap, arith, Option}
use Rattle.list_store.proofs.Cited.{Some, None, take_all, drop-map, length-drop, option_map, IfSome, Block, sizes, Spot, raised, spot_at}
use Rattle.list_store.proofs.Cited.{StoredBlock, block_of, blocks_of, nth_spot, sizes-drop}

-- what is above the block of an index
nth-above : (i : ℕ) (bs : List Block) (P : List Block → Type 0) → P (drop (suc i) bs)
    → IfSome (nth_spot i bs) (λ s. P s.above)
nth-above i [] P holds = tt
nth-above zero (b ∷ bs) P holds = holds
nth-above (suc i) (b ∷ bs) P holds = cases (nth_spot i bs) (nth-above i bs P holds)
  where
    cases : (o : Option Spot) → IfSome o (λ s. P s.above) → IfSome (option_map (raised b) o) (λ s. P s.above)
    cases None h = tt
    cases (Some s) h = h

-- what is above the block of a place
pub above-place : (es : List StoredBlock) (place i : ℕ) (P : List Block → Type 0)
    → spot_at place (blocks_of es) ≡ nth_spot i (blocks_of es) → P (drop (i + 1) (blocks_of es))
    → IfSome (spot_at place (blocks_of es)) (λ s. P s.above)
above-place es place i P found holds =
    subst (λ (o : Option Spot). IfSome o (λ s. P s.above)) (sym found)
    (nth-above i (blocks_of es) P (subst (λ n. P (drop n (blocks_of es))) (let z : i + 1 ≡ suc i = omega arith in
    z) holds))

-- the entries from an index on
pub blocks-from : (es : List StoredBlock) (n : ℕ) → blocks_of (take (length es - n) (drop n es)) ≡ drop n (blocks_of es)
blocks-from es n = ap blocks_of (take_all (length es - n) (drop n es)
    (let z : length (drop n es) ≡ length es - n = length-drop n es in omega arith)) ∙ sym (drop-map block_of n es)

-- the entries from an index on take no more bytes than all
pub sizes-from : (es : List StoredBlock) (n : ℕ) → sizes (blocks_of (take (length es - n) (drop n es))) ≤ sizes
    (blocks_of es)
sizes-from es n = let from = ap sizes (blocks-from es n) in let less = sizes-drop n (blocks_of es) in omega arith
