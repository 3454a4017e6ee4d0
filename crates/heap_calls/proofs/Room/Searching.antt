use Rattle.heap_calls.proofs.Cited.{◌≡◌, ℕ, ◌+◌, ◌≤◌, ◌<◌, Bool, true, false, ◌||◌, List, [], ◌∷◌, length, refl, sym, ◌∙◌, ap, subst, cond}
use Rattle.heap_calls.proofs.Cited.{arith, Option, Some, None, is_some, none-some, option_map, IfSome, padded, Block, Free, Nonrelocatable}
use Rattle.heap_calls.proofs.Cited.{Masters, Relocatable, size, sizes, count, is_room, tidy, is_relocatable, has, has_free, settle}
use Rattle.heap_calls.proofs.Cited.{with_run, RunSpot, run_spot, run_at, Spot, raised, spot, place, may_be_purged, count_of, freed}
use Rattle.heap_calls.proofs.Cited.{total-tidy, total-le, size-freed, run_spot-passes, room-settled, spared, most_purges, FindsPlacement}
use Rattle.heap_calls.proofs.Cited.{Placement, Sparing}
use Rattle.heap_calls.specs.declared.search.Placement.TheVariants as see
use Rattle.block_store.specs.declared.sparing.Sparing.TheVariants as sparing

-- joining free neighbours leaves how many may go
pub count-tidy : (t : Block → Bool) (bs : List Block) → count (may_be_purged t) (tidy bs) ≡ count_of t bs
count-tidy t bs = total-tidy (λ (b : Block). cond (may_be_purged t b) 1 0) (λ n m. refl) bs

-- no block passes, or some do
pub count-none : (t : Block → Bool) (bs : List Block) → spot t bs ≡ None → count t bs ≡ 0
count-none t [] e = refl
count-none t (b ∷ bs) e = cases (t b) refl (spot t bs) (count-none t bs) e
  where
    cases : (m : Bool) → t b ≡ m → (o : Option Spot) → (o ≡ None → count t bs ≡ 0)
        → cond m (Some (record { below = []; here = b; above = bs })) (option_map (raised b) o) ≡ None
        → cond {A = ℕ} (t b) 1 0 + count t bs ≡ 0
    cases true is o more e = absurd (none-some _ (sym e))
    cases false is (Some s) more e = absurd (none-some _ (sym e))
    cases false is None more e =
        let a : cond {A = ℕ} (t b) 1 0 ≡ 0 = ap {B = ℕ} (λ (t : Bool). cond t 1 0) is in
        omega (arith, more refl)

pub count-some : (t : Block → Bool) (bs : List Block) (s : Spot) → spot t bs ≡ Some s → 0 < count t bs
count-some t [] s e = absurd (none-some _ e)
count-some t (b ∷ bs) s e = cases (t b) refl (spot t bs) (count-some t bs) e
  where
    cases : (m : Bool) → t b ≡ m → (o : Option Spot) → ((s : Spot) → o ≡ Some s → 0 < count t bs)
        → cond m (Some (record { below = []; here = b; above = bs })) (option_map (raised b) o) ≡ Some s
        → 0 < cond {A = ℕ} (t b) 1 0 + count t bs
    cases true is o more e = let a : cond {A = ℕ} (t b) 1 0 ≡ 1 = ap {B = ℕ} (λ (t : Bool). cond t 1 0) is in
        omega arith
    cases false is (Some s') more e = omega (arith, more s' refl)
    cases false is None more e = absurd (none-some _ e)

-- each block that may go takes bytes
pub count-le : (t : Block → Bool) (bs : List Block) → count_of t bs ≤ sizes bs
count-le t bs = total-le (λ (b : Block). cond (may_be_purged t b) 1 0) size one bs
  where
    one : (b : Block) → cond (may_be_purged t b) 1 0 ≤ size b
    one (Free n) = omega arith
    one (Nonrelocatable id content) = omega arith
    one Masters = omega arith
    one (Relocatable id flags content) = elim (may_be_purged t (Relocatable id flags content)) as
        (λ m. cond m 1 0 ≤ padded (length content)) [ true ↦ omega arith | false ↦ omega arith ]

pub most-le : (n : Sparing) (bs : List Block) → most_purges n bs ≤ sizes bs
most-le sparing.Nothing bs = count-le (spared sparing.Nothing) bs
most-le (sparing.One a) bs = count-le (spared (sparing.One a)) bs
most-le (sparing.Two a b) bs = count-le (spared (sparing.Two a b)) bs
most-le (sparing.Freed a) bs = let e = size-freed (is_relocatable a) bs in
    omega (arith, count-le (spared (sparing.Freed a)) (freed (is_relocatable a) bs), e)

pub has-none : (t : Block → Bool) (bs : List Block) → spot t bs ≡ None → has t bs ≡ false
has-none t [] e = refl
has-none t (b ∷ bs) e = cases (t b) (spot t bs) (has-none t bs) e
  where
    cases : (m : Bool) (o : Option Spot) → (o ≡ None → has t bs ≡ false)
        → cond m (Some (record { below = []; here = b; above = bs })) (option_map (raised b) o) ≡ None
        → (m || has t bs) ≡ false
    cases true o more e = absurd (none-some _ (sym e))
    cases false (Some s) more e = absurd (none-some _ (sym e))
    cases false None more e = more refl

-- where there is a placement, there is a place
pub room-found : (p : ℕ) → 0 < p → (zone : List Block) (r : RunSpot) → run_spot (has_free p) zone ≡ Some r
    → (after : List Block) → after ≡ tidy (with_run settle r) → spot (is_room p) after ≡ None → ⊥
room-found p pos zone r e after is none =
    let a : has (is_room p) after ≡ true = ap (has (is_room p)) is
    ∙ room-settled p pos r (run_spot-passes (has_free p) zone r e) in
    let b : has (is_room p) after ≡ false = has-none (is_room p) after none in
    let f : true ≡ false = sym a ∙ b in cc

pub placement-some : (p : ℕ) (zone : List Block) → 0 < p → (o : Option Placement) → FindsPlacement p zone o → is_some o
    ≡ true
    → is_some (place p zone) ≡ true
placement-some p zone pos None found is = let f : false ≡ true = is in cc
placement-some p zone pos (Some (see.Free at)) found is = rw found.1 refl
placement-some p zone pos (Some (see.Run run)) found is = rw (found.0, found.1.1)
    (cases (spot (is_room p) (tidy (with_run settle found.1.0))) refl)
  where
    cases : (o : Option Spot) → spot (is_room p) (tidy (with_run settle found.1.0)) ≡ o → is_some o ≡ true
    cases None e = absurd (room-found p pos zone found.1.0 found.1.1 (tidy (with_run settle found.1.0)) refl e)
    cases (Some s) e = refl

-- what holds of the run at a place
pub at_run : (place : ℕ) (zone zone' : List Block) (r : RunSpot) (P : RunSpot → Type 0) → zone' ≡ zone
    → run_at place zone ≡ Some r → IfSome (run_at place zone') P → P r
at_run place zone zone' r P same e h =
    let Q : Option RunSpot → Type 0 = λ o. IfSome o P in
    subst Q (ap (run_at place) same ∙ e) h
