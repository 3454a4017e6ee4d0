use Rattle.block_store.proofs.Cited.{◌≡◌, ℕ, ◌+◌, ◌≤◌, ◌<◌, zero, suc, Bool, true, false, ◌||◌, List, [], ◌∷◌, ◌++◌, refl, ◌∙◌, arith}
use Rattle.block_store.proofs.Cited.{Option, Some, None, nat_le, none-some, le-leb, leb-true, lt-leb, option_map, option_or}
use Rattle.block_store.proofs.Cited.{option_and_then, Block, Free, Nonrelocatable, Masters, Relocatable, free_sum, free, is_room, add, tidy}
use Rattle.block_store.proofs.Cited.{has, has_free, movers, settle, with_run, change_run, RunSpot, Spot, spot, place}
use Rattle.block_store.proofs.Zone.Tidy.{spot-passes}
use Rattle.block_store.proofs.Zone.Passing.{has-append, has-front}

-- Zones that have room.

-- Free blocks that are made one have no less room
room-add : (p : ℕ) → 0 < p → (b : Block) (bs : List Block) → (is_room p b || has (is_room p) bs) ≡ true
    → has (is_room p) (add b bs) ≡ true
room-add p pos (Free zero) bs e = cases (nat_le p 0) (lt-leb p 0 pos) e
  where
    cases : (t : Bool) → t ≡ false → (t || has (is_room p) bs) ≡ true → has (is_room p) bs ≡ true
    cases true is e = let f : true ≡ false = is in cc
    cases false is e = e
room-add p pos (Free (suc n)) [] e = e
room-add p pos (Free (suc n)) (Free m ∷ bs) e = cases (nat_le p (suc n)) (nat_le p m) refl refl e
  where
    cases : (t u : Bool) → nat_le p (suc n) ≡ t → nat_le p m ≡ u → (t || (u || has (is_room p) bs)) ≡ true
        → (nat_le p (suc n + m) || has (is_room p) bs) ≡ true
    cases true u at_t at_u e = rw (le-leb p (suc n + m) (omega (arith, leb-true p (suc n) at_t))) refl
    cases false true at_t at_u e = rw (le-leb p (suc n + m) (omega (arith, leb-true p m at_u))) refl
    cases false false at_t at_u e = rw e (elim (nat_le p (suc n + m)) as (λ t. (t || true) ≡ true)
        [ true ↦ refl | false ↦ refl ])
room-add p pos (Free (suc n)) (Nonrelocatable id content ∷ bs) e = e
room-add p pos (Free (suc n)) (Masters ∷ bs) e = e
room-add p pos (Free (suc n)) (Relocatable id flags content ∷ bs) e = e
room-add p pos (Nonrelocatable id content) bs e = e
room-add p pos Masters bs e = e
room-add p pos (Relocatable id flags content) bs e = e

pub room-tidy : (p : ℕ) → 0 < p → (bs : List Block) → has (is_room p) bs ≡ true → has (is_room p) (tidy bs) ≡ true
room-tidy p pos [] e = e
room-tidy p pos (b ∷ bs) e = room-add p pos b (tidy bs) (cases (is_room p b) e (room-tidy p pos bs))
  where
    cases : (t : Bool) → (t || has (is_room p) bs) ≡ true → (has (is_room p) bs ≡ true
        → has (is_room p) (tidy bs) ≡ true) → (t || has (is_room p) (tidy bs)) ≡ true
    cases true e more = refl
    cases false e more = more e

room-free : (p n : ℕ) → 0 < p → p ≤ n → has (is_room p) (free n) ≡ true
room-free p zero pos le = absurd (omega arith)
room-free p (suc n) pos le = rw (le-leb p (suc n) le) refl

-- a run with so many Free bytes has room once it is packed
pub room-settled : (p : ℕ) → 0 < p → (r : RunSpot) → has_free p r.run ≡ true
    → has (is_room p) (tidy (with_run settle r)) ≡ true
room-settled p pos r e =
    room-tidy p pos (with_run settle r) (has-front (is_room p) (r.below ++ settle r.run) r.above
    (has-append (is_room p) r.below (settle r.run)
    (has-append (is_room p) (movers r.run) (free (free_sum r.run))
    (room-free p (free_sum r.run) pos (leb-true p (free_sum r.run) e)))))

-- a place has room
pub place-room : (p : ℕ) (zone : List Block) (s : Spot) → place p zone ≡ Some s → is_room p s.here ≡ true
place-room p zone s e = cases (spot (is_room p) zone) refl e
  where
    after : (o : Option (List Block)) → option_and_then (spot (is_room p)) (option_map tidy o) ≡ Some s
        → is_room p s.here ≡ true
    after None e = absurd (none-some _ e)
    after (Some z) e = spot-passes (is_room p) (tidy z) s e

    cases : (o : Option Spot) → spot (is_room p) zone ≡ o → option_or o
        (option_and_then (spot (is_room p)) (option_map tidy (change_run (has_free p) settle zone))) ≡ Some s
        → is_room p s.here ≡ true
    cases None is e = after (change_run (has_free p) settle zone) e
    cases (Some t) is e = spot-passes (is_room p) zone s (is ∙ e)
