use Rattle.block_store.proofs.Cited.{◌≡◌, ℕ, ◌+◌, ◌-◌, ◌==◌, Bool, true, false, List, [], ◌∷◌, ◌++◌, refl, sym, ◌∙◌, ap, subst, arith}
use Rattle.block_store.proofs.Cited.{Option, Some, None, nat_le, is_some, inl, inr, cond-true, cond-false, le-leb, option_map, IsSome}
use Rattle.block_store.proofs.Cited.{IsSomeAnd, IsTrue, Block, size, sizes, is_relocatable, IsEdge, has, Spot, raised, spot, spot_at, Slot}
use Rattle.block_store.proofs.Cited.{is_used}
use Rattle.std.proofs.lemmas.List.{append_assoc}
use Rattle.block_store.proofs.Nonrelocatable.Placing.{spot_at-below}
use Rattle.block_store.proofs.Plain.Options.{some_and}
use Rattle.block_store.proofs.Regroup.Settling.{has-spot}
use Rattle.block_store.proofs.Zone.Aligned.{spot_at-is}
use Rattle.block_store.proofs.Zone.Totals.{total-append}

-- Where blocks begin, and the slots that lead to them.

-- where a part of a zone ends, the next begins, or the zone ends
edge-append : (below above : List Block) → IsEdge (sizes below) (below ++ above)
edge-append [] [] = inr refl
edge-append [] (b ∷ above) = inl refl
edge-append (x ∷ below) above = cases (sizes (x ∷ below) == 0) refl (edge-append below above)
  where
    place : ℕ
    place = size x + sizes below

    left : place - size x ≡ sizes below
    left = omega arith

    raised-some : (o : Option Spot) → is_some o ≡ true → is_some (option_map (raised x) o) ≡ true
    raised-some None e = e
    raised-some (Some s) e = refl

    cases : (t : Bool) → (place == 0) ≡ t → IsEdge (sizes below) (below ++ above)
        → IsEdge place (x ∷ below ++ above)
    cases true e rest = inl (ap is_some (cond-true (place == 0) _ _ e))
    cases false e (inl there) = inl (ap is_some (cond-false (place == 0) _ _ e
        ∙ cond-true (nat_le (size x) place) _ _ (le-leb _ _ (omega arith))
        ∙ ap (λ n. option_map (raised x) (spot_at n (below ++ above))) left)
        ∙ raised-some (spot_at (sizes below) (below ++ above)) there)
    cases false e (inr end) = inr (ap (λ n. size x + n) end)

pub edge-between : (place : ℕ) (zone below above : List Block) → below ++ above ≡ zone → sizes below ≡ place
    → IsEdge place zone
edge-between place zone below above whole is =
    let P : List Block → Type 0 = λ l. IsEdge place l in
    let Q : ℕ → Type 0 = λ n. IsEdge n (below ++ above) in
    subst P whole (subst Q is (edge-append below above))

-- behind a block the next begins, or the zone ends
pub edge-behind : (place : ℕ) (zone : List Block) (s : Spot) → spot_at place zone ≡ Some s
    → IsEdge (place + size s.here) zone
edge-behind place zone s at =
    let whole : (s.below ++ s.here ∷ []) ++ s.above ≡ zone = append_assoc s.below (s.here ∷ []) s.above
    ∙ spot_at-is place zone s at in
    let all : sizes (s.below ++ s.here ∷ []) ≡ sizes s.below + (size s.here + 0) =
    total-append size s.below (s.here ∷ []) in
    let here : sizes s.below ≡ place = spot_at-below place zone s at in
    edge-between (place + size s.here) zone (s.below ++ s.here ∷ []) s.above whole (omega arith)

-- a slot that leads to a block is a handle's
pub used-there : (slots : ℕ → Slot) (zone : List Block) (number : ℕ)
    → (is_used (slots number) ≡ false → has (is_relocatable number) zone ≡ false)
    → IsSome (spot (is_relocatable number) zone) → IsTrue (is_used (slots number))
used-there slots zone number no_block is = cases (is_used (slots number)) refl
  where
    cases : (t : Bool) → is_used (slots number) ≡ t → t ≡ true
    cases true e = refl
    cases false e = sym (no_block e) ∙ has-spot (is_relocatable number) zone ∙ is

pub used-some : (slots : ℕ → Slot) (zone : List Block) (number : ℕ) (P : Spot → Type 0)
    → (is_used (slots number) ≡ false → has (is_relocatable number) zone ≡ false)
    → IsSomeAnd (spot (is_relocatable number) zone) P → IsTrue (is_used (slots number))
used-some slots zone number P no_block is = used-there slots zone number no_block
    (ap is_some (some_and (spot (is_relocatable number) zone) P is).1)
