use Rattle.block_store.proofs.Cited.{◌≡◌, ℕ, ◌+◌, ◌≤◌, ◌<◌, Bool, true, false, not, List, [], ◌∷◌, ◌++◌, append_assoc, refl, sym, ◌∙◌, ap}
use Rattle.block_store.proofs.Cited.{cond, subst, arith, Option, Some, None, nat_lt, cond-true, cond-false, or_parts, Decides-eqb}
use Rattle.block_store.proofs.Cited.{nat_tests, append-nil, option_map, IfSome, Flags, Block, Free, Nonrelocatable, Masters, Relocatable}
use Rattle.block_store.proofs.Cited.{size, sizes, total, count, free, free_sum, is_mover, is_relocatable, add, tidy, RunSpot, has, movers}
use Rattle.block_store.proofs.Cited.{settle, with_run, run_at, Spot, raised, spot, lowered_in_run, distance, is_less, stands_lower, lowered}
use Rattle.block_store.proofs.Cited.{Loose}
use Rattle.block_store.proofs.Zone.Totals.{total-append}
use Rattle.block_store.proofs.Zone.Apart.{Apart, apart-size, apart-tidied}
use Rattle.block_store.proofs.Zone.Leading.{none-count, count-none}
use Rattle.block_store.proofs.Nonrelocatable.Placing.{sizes-settle}
use Rattle.block_store.proofs.Regroup.Packed.{settle-total}
use Rattle.block_store.proofs.Regroup.RunLists.{run_at-parts, run_at-is}
use Rattle.block_store.proofs.Zone.Tidy.{add-joined}

-- What settling counts: the relocatable blocks that stand lower afterwards.

-- the distance of a slot's block is 0 where it comes first, else more by the first block
distance-cons : (k : ℕ) (b : Block) (bs : List Block) → distance k (b ∷ bs)
    ≡ cond (is_relocatable k b) (Some 0) (option_map (λ n. size b + n) (distance k bs))
distance-cons k b bs = cases (is_relocatable k b) (spot (is_relocatable k) bs)
  where
    cases : (t : Bool) (o : Option Spot)
        → option_map (λ (s : Spot). sizes s.below) (cond t (Some (record { below = []; here = b; above = bs }))
        (option_map (raised b) o)) ≡ cond t (Some 0) (option_map (λ n. size b + n)
        (option_map (λ (s : Spot). sizes s.below) o))
    cases true o = refl
    cases false None = refl
    cases false (Some s) = refl

nothing-more : (o : Option ℕ) → o ≡ option_map (λ n. 0 + n) o
nothing-more None = refl
nothing-more (Some n) = ap (λ (k : ℕ). Some k) (let z : n ≡ 0 + n = omega arith in z)

more-twice : (n m : ℕ) (o : Option ℕ) → option_map (λ k. n + m + k) o
    ≡ option_map (λ k. n + k) (option_map (λ k. m + k) o)
more-twice n m None = refl
more-twice n m (Some k) = ap (λ (i : ℕ). Some i) (let z : n + m + k ≡ n + (m + k) = omega arith in z)

distance-add : (k : ℕ) (b : Block) (bs : List Block) → distance k (add b bs) ≡ distance k (b ∷ bs)
distance-add k = add-joined (distance k)
    (λ bs. distance-cons k (Free 0) bs ∙ sym (nothing-more (distance k bs)))
    (λ n m bs. distance-cons k (Free (n + m)) bs ∙ more-twice n m (distance k bs)
    ∙ ap (option_map (λ i. n + i)) (sym (distance-cons k (Free m) bs)) ∙ sym (distance-cons k (Free n) (Free m ∷ bs)))

-- making Free neighbours one moves no block
distance-tidy : (k : ℕ) (bs : List Block) → distance k (tidy bs) ≡ distance k bs
distance-tidy k [] = refl
distance-tidy k (b ∷ bs) =
    distance-add k b (tidy bs) ∙ distance-cons k b (tidy bs) ∙ ap
    (λ o. cond (is_relocatable k b) (Some 0) (option_map (λ n. size b + n) o)) (distance-tidy k bs)
    ∙ sym (distance-cons k b bs)

-- the distance of the first block of a slot
distance-first : (k : ℕ) (below : List Block) (b : Block) (above : List Block) → is_relocatable k b ≡ true
    → has (is_relocatable k) below ≡ false → distance k (below ++ b ∷ above) ≡ Some (sizes below)
distance-first k [] b above is none = distance-cons k b above ∙ cond-true (is_relocatable k b) _ _ is
distance-first k (x ∷ below) b above is none =
    let parts = or_parts (is_relocatable k x) (has (is_relocatable k) below) none in
    distance-cons k x (below ++ b ∷ above) ∙ cond-false (is_relocatable k x) _ _ parts.0
    ∙ ap (option_map (λ n. size x + n)) (distance-first k below b above is parts.1)

-- where no slot leads to two blocks, none below a block is of its slot
none-below : (k : ℕ) (below : List Block) (b : Block) (above : List Block) → is_relocatable k b ≡ true
    → count (is_relocatable k) (below ++ b ∷ above) ≤ 1 → has (is_relocatable k) below ≡ false
none-below k below b above is once =
    none-count (is_relocatable k) below
    (let one : cond {A = ℕ} (is_relocatable k b) 1 0 ≡ 1 = ap {B = ℕ} (λ (t : Bool). cond t 1 0) is in
    let parts : count (is_relocatable k) (below ++ b ∷ above) ≡ count (is_relocatable k) below +
    (cond (is_relocatable k b) 1 0 + count (is_relocatable k) above) =
    total-append (λ (b : Block). cond (is_relocatable k b) 1 0) below (b ∷ above) in
    omega arith)

-- an old list and a new one, each as some blocks and those above them; no slot leads to two of the old blocks, and what
-- is below in the new list is among what is below in the old one
pub record Changed (old new below below' above above' : List Block) : Type 0 where
  pub once : (k : ℕ) → count (is_relocatable k) old ≤ 1
  pub fewer : (k : ℕ) → count (is_relocatable k) below' ≤ count (is_relocatable k) below
  pub was : old ≡ below ++ above
  pub is : (k : ℕ) → distance k new ≡ distance k (below' ++ above')

-- the blocks below and one more
pub total-next : (of : Block → ℕ) (below : List Block) (b : Block) → total of (below ++ b ∷ []) ≡ total of below + of b
total-next of below b = omega (arith, total-append of below (b ∷ []))

-- the same block comes first in both
pub past-block : (old new below below' above above' : List Block) (b : Block)
    → Changed old new below below' (b ∷ above) (b ∷ above') → Changed old new (below ++ b ∷ []) (below' ++ b ∷ []) above
    above'
past-block old new below below' above above' b c = record {
  once = c.once;
  fewer = λ k. let of : Block → ℕ = λ b. cond (is_relocatable k b) 1 0 in
      let f : total of below' ≤ total of below = c.fewer k in let z : total of (below' ++ b ∷ []) ≤ total of
      (below ++ b ∷ []) = omega (arith, total-next of below' b, total-next of below b) in z;
  was = c.was ∙ sym (append_assoc below (b ∷ []) above);
  is = λ k. c.is k ∙ ap (distance k) (sym (append_assoc below' (b ∷ []) above'));
}

-- a Free block comes first in the old list
past-free : (old new below below' above above' : List Block) (n : ℕ)
    → Changed old new below below' (Free n ∷ above) above' → Changed old new (below ++ Free n ∷ []) below' above above'
past-free old new below below' above above' n c = record {
  once = c.once;
  fewer = λ k. let of : Block → ℕ = λ b. cond (is_relocatable k b) 1 0 in
      let f : total of below' ≤ total of below = c.fewer k in let z : total of below' ≤ total of
      (below ++ Free n ∷ []) = omega (arith, total-next of below (Free n)) in z;
  was = c.was ∙ sym (append_assoc below (Free n ∷ []) above);
  is = c.is;
}

-- a relocatable block that comes first in both stands lower if less is below it
pub stands-first : (old new below below' above above' : List Block) (id : ℕ) (flags : Flags) (content : List ℕ)
    → Changed old new below below' (Relocatable id flags content ∷ above) (Relocatable id flags content ∷ above')
    → stands_lower old new (Relocatable id flags content) ≡ nat_lt (sizes below') (sizes below)
stands-first old new below below' above above' id flags content c =
    let b = Relocatable id flags content in
    let own : is_relocatable id b ≡ true = (Decides-eqb id id).1 refl in
    let none = none-below id below b above own (let P : List Block → Type 0 = λ l. count (is_relocatable id) l ≤ 1 in
    subst P c.was (c.once id)) in
    let none' : has (is_relocatable id) below' ≡ false = none-count (is_relocatable id) below'
    (let z = count-none (is_relocatable id) below none in let f = c.fewer id in omega arith) in
    let was : distance id old ≡ Some (sizes below) = ap (distance id) c.was
    ∙ distance-first id below b above own none in
    let is : distance id new ≡ Some (sizes below') = c.is id ∙ distance-first id below' b above' own none' in
    ap (λ o. is_less o (distance id old)) is ∙ ap (λ o. is_less (Some (sizes below')) o) was

-- blocks with as much below them as before don't stand lower
pub none-lower : (old new below below' bs above above' : List Block)
    → Changed old new below below' (bs ++ above) (bs ++ above') → sizes below' ≡ sizes below
    → count (stands_lower old new) bs ≡ 0
none-lower old new below below' [] above above' c same = refl
none-lower old new below below' (b ∷ bs) above above' c same =
    let rest = none-lower old new (below ++ b ∷ []) (below' ++ b ∷ []) bs above above'
    (past-block old new below below' (bs ++ above) (bs ++ above') b c)
    (omega (arith, total-next size below' b, total-next size below b)) in
    let first : cond {A = ℕ} (stands_lower old new b) 1 0 ≡ 0 = ap {B = ℕ} (λ (t : Bool). cond t 1 0) (one b c) in
    omega arith
  where
    one : (b : Block) → Changed old new below below' (b ∷ bs ++ above) (b ∷ bs ++ above')
        → stands_lower old new b ≡ false
    one (Free n) c = refl
    one (Nonrelocatable id content) c = refl
    one Masters c = refl
    one (Relocatable id flags content) c = stands-first old new below below' (bs ++ above) (bs ++ above') id flags
        content c ∙ grind (arith, nat_tests)

-- blocks that take bytes
abbrev pub Filled : List Block → Type 0
Filled [] = Unit {0}
Filled (b ∷ bs) = (0 < size b) × Filled bs

pub filled-apart : (bs : List Block) → Apart bs → Filled bs
filled-apart [] a = tt
filled-apart (b ∷ bs) a = (apart-size b bs a.0, filled-apart bs a.1)

pub filled-parts : (xs ys : List Block) → Filled (xs ++ ys) → Filled xs × Filled ys
filled-parts [] ys f = (tt, f)
filled-parts (x ∷ xs) ys f = let parts = filled-parts xs ys f.1 in ((f.0, parts.0), parts.1)

-- the relocatable blocks of a run without its Free blocks: all of them stand lower if less is below the first, else
-- those that had Free bytes below them
pub lowered-movers : (old new below below' run above above' : List Block)
    → Changed old new below below' (run ++ above) (movers run ++ above') → Loose run → Filled run
    → sizes below' ≤ sizes below
    → count (stands_lower old new) run ≡ cond (nat_lt (sizes below') (sizes below)) (count is_mover run)
    (lowered_in_run run)
lowered-movers old new below below' [] above above' c loose filled less =
    elim (nat_lt (sizes below') (sizes below)) as (λ t. 0 ≡ cond {A = ℕ} t 0 0) [ true ↦ refl | false ↦ refl ]
lowered-movers old new below below' (Free n ∷ run) above above' c loose filled less =
    let more = total-next size below (Free n) in
    let some : 0 < n = filled.0 in
    let rest = lowered-movers old new (below ++ Free n ∷ []) below' run above above'
    (past-free old new below below' (run ++ above) (movers run ++ above') n c) loose.1 filled.1 (omega arith) in
    let lower : nat_lt (sizes below') (sizes (below ++ Free n ∷ [])) ≡ true = grind (arith, nat_tests) in
    let all : count (stands_lower old new) run ≡ count is_mover run = rest ∙ cond-true _ _ _ lower in
    cases (nat_lt (sizes below') (sizes below)) all
  where
    cases : (t : Bool) → count (stands_lower old new) run ≡ count is_mover run
        → 0 + count (stands_lower old new) run ≡ cond t (0 + count is_mover run) (count is_mover run)
    cases true all = omega arith
    cases false all = omega arith
lowered-movers old new below below' (Nonrelocatable id content ∷ run) above above' c loose filled less = let f : false ≡ true =
    loose.0 in cc
lowered-movers old new below below' (Masters ∷ run) above above' c loose filled less = let f : false ≡ true = loose.0 in
    cc
lowered-movers old new below below' (Relocatable id flags content ∷ run) above above' c loose filled less =
    let b = Relocatable id flags content in
    let kept : movers (b ∷ run) ≡ b ∷ movers run = cond-true (not flags.locked) (b ∷ movers run) (movers run) loose.0 in
    let P : List Block → Type 0 = λ l. Changed old new below below' (b ∷ run ++ above) (l ++ above') in
    let d : Changed old new below below' (b ∷ run ++ above) (b ∷ movers run ++ above') = subst P kept c in
    let was = total-next size below b in
    let is = total-next size below' b in
    let rest = lowered-movers old new (below ++ b ∷ []) (below' ++ b ∷ []) run above above'
    (past-block old new below below' (run ++ above) (movers run ++ above') b d) loose.1 filled.1 (omega arith) in
    let same : nat_lt (sizes (below' ++ b ∷ [])) (sizes (below ++ b ∷ [])) ≡ nat_lt (sizes below') (sizes below) =
    grind (arith, nat_tests) in
    cases (stands_lower old new b) (nat_lt (sizes below') (sizes below)) (not flags.locked)
    (stands-first old new below below' (run ++ above) (movers run ++ above') id flags content d) loose.0
    (rest ∙ ap (λ t. cond t (count is_mover run) (lowered_in_run run)) same)
  where
    cases : (lower t mover : Bool) → lower ≡ t → mover ≡ true → count (stands_lower old new) run
        ≡ cond t (count is_mover run) (lowered_in_run run)
        → cond {A = ℕ} lower 1 0 + count (stands_lower old new) run
        ≡ cond t (cond mover 1 0 + count is_mover run) (lowered_in_run run)
    cases true true true e m rest = omega arith
    cases false false true e m rest = omega arith
    cases true false mover e m rest = let f : true ≡ false = e in cc
    cases false true mover e m rest = let f : false ≡ true = e in cc
    cases lower t false e m rest = let f : false ≡ true = m in cc

-- what a settled run counts, in a zone in which no slot leads to two blocks and each block takes bytes
pub lowered-settled : (zone : List Block) (place : ℕ) (r : RunSpot) → ((k : ℕ) → count (is_relocatable k) zone ≤ 1)
    → tidy zone ≡ zone → run_at place zone ≡ Some r → lowered_in_run r.run ≡ lowered zone (tidy (with_run settle r))
lowered-settled zone place r once tidied found =
    let parts = run_at-parts place zone r found in
    let new = tidy (with_run settle r) in
    let lower = stands_lower zone new in
    let whole : zone ≡ r.below ++ (r.run ++ r.above) = sym (run_at-is place zone r found) in
    let left = free (free_sum r.run) in
    let settled : r.below ++ settle r.run ++ r.above ≡ r.below ++ (movers r.run ++ (left ++ r.above)) =
    append_assoc r.below (settle r.run) r.above ∙ ap (λ l. r.below ++ l)
    (append_assoc (movers r.run) left r.above) in
    let is : (k : ℕ) → distance k new ≡ distance k (r.below ++ settle r.run ++ r.above) =
    λ k. distance-tidy k (with_run settle r) in
    let filled = filled-parts (r.below ++ r.run) r.above (let P : List Block → Type 0 = λ l. Filled l in
    subst P (sym parts.whole) (filled-apart zone (apart-tidied zone tidied))) in
    let below : count lower r.below ≡ 0 = none-lower zone new [] [] r.below (r.run ++ r.above)
    (movers r.run ++ (left ++ r.above)) (record {
      once = once;
      fewer = λ k. omega arith;
      was = whole;
      is = λ k. is k
          ∙ ap (distance k) settled;
    }) refl in
    let run : count lower r.run ≡ cond (nat_lt (sizes r.below) (sizes r.below)) (count is_mover r.run)
    (lowered_in_run r.run) =
    lowered-movers zone new r.below r.below r.run r.above (left ++ r.above)
    (record { once = once; fewer = λ k. omega arith; was = whole; is = λ k. is k ∙ ap (distance k) settled })
    parts.loose (filled-parts r.below r.run filled.0).1 (omega arith) in
    let few : nat_lt (sizes r.below) (sizes r.below) ≡ false = grind (arith, nat_tests) in
    let counted : (k : ℕ) → count (is_relocatable k) (r.below ++ settle r.run) ≤ count (is_relocatable k)
    (r.below ++ r.run) = λ k.
    let of : Block → ℕ = λ b. cond (is_relocatable k b) 1 0 in
    let same = settle-total of (λ n m. refl) r.run parts.loose in
    let z : total of (r.below ++ settle r.run) ≤ total of (r.below ++ r.run) =
    omega (arith, total-append of r.below (settle r.run), total-append of r.below r.run) in z in
    let above : count lower r.above ≡ 0 = none-lower zone new (r.below ++ r.run) (r.below ++ settle r.run) r.above [] []
    (record {
      once = once;
      fewer = counted;
      was = sym parts.whole
          ∙ ap (λ l. r.below ++ r.run ++ l) (sym (append-nil r.above));
      is = λ k. is k
          ∙ ap (λ l. distance k (r.below ++ settle r.run ++ l)) (sym (append-nil r.above));
    })
    (omega (
      arith,
      total-append size r.below (settle r.run),
      total-append size r.below r.run,
      sizes-settle r.run
          parts.loose,
    )) in
    let of : Block → ℕ = λ b. cond (lower b) 1 0 in
    let sum : total of zone ≡ total of r.below + total of r.run + total of r.above = ap (total of) (sym parts.whole)
    ∙ total-append of (r.below ++ r.run) r.above ∙ ap (λ n. n + total of r.above) (total-append of r.below r.run) in
    let mid : count lower r.run ≡ lowered_in_run r.run = run ∙ cond-false _ _ _ few in
    let z : lowered_in_run r.run ≡ total of zone = omega arith in z

-- the same of a zone that was settled
pub settle-counted : (zone zone' : List Block) (place : ℕ) → ((k : ℕ) → count (is_relocatable k) zone ≤ 1)
    → tidy zone ≡ zone → IfSome (run_at place zone) (λ r. zone' ≡ tidy (with_run settle r))
    → IfSome (run_at place zone) (λ r. lowered_in_run r.run ≡ lowered zone zone')
settle-counted zone zone' place once tidied after = cases (run_at place zone) refl after
  where
    cases : (o : Option RunSpot) → run_at place zone ≡ o → IfSome o (λ r. zone' ≡ tidy (with_run settle r))
        → IfSome o (λ r. lowered_in_run r.run ≡ lowered zone zone')
    cases None e after = after
    cases (Some r) e after = lowered-settled zone place r once tidied e ∙ ap (lowered zone) (sym after)
