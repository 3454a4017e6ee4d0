use Rattle.block_store.proofs.Cited.{◌≡◌, ℕ, ◌+◌, ◌-◌, ◌≤◌, ◌<◌, zero, suc, Bool, true, false, not, ◌&&◌, ◌==◌, List, [], ◌∷◌, ◌++◌, length}
use Rattle.block_store.proofs.Cited.{take, drop, map, refl, sym, ◌∙◌, ap, cond, subst, arith, Option, Some, append_assoc, filter, nat_le}
use Rattle.block_store.proofs.Cited.{append-nil, take-append-drop, length-append, drop-drop, filter-append, cond-true, cond-false, or_parts}
use Rattle.block_store.proofs.Cited.{IsSomeAnd, nat_tests, IsTrue, Block, Free, Nonrelocatable, Masters, Relocatable, sizes, total, count}
use Rattle.block_store.proofs.Cited.{free, size, free_of, free_sum, is_mover, is_relocatable, add, tidy, in_run, segments, Segments, has}
use Rattle.block_store.proofs.Cited.{movers, others, settle, high, low, has_free, run_at, RunSpot, with_run, beyond, lowered_in_run}
use Rattle.block_store.proofs.Cited.{is_free, Spot, Loose, cleared, cleared_first, packed, run_of_index, run_between}
use Rattle.block_store.proofs.Zone.Totals.{total-append, total-le}
use Rattle.block_store.proofs.Zone.Tidy.{Adds, total-tidy}
use Rattle.block_store.proofs.Zone.Zones.{joined-segments}
use Rattle.block_store.proofs.Zone.Listing.{free_of-le}
use Rattle.block_store.proofs.Zone.Leading.{none-count}
use Rattle.block_store.proofs.Zone.Passing.{filter-none}

-- the lowest run ends at a barrier
stopped : (b : Block) (above : List Block) → in_run b ≡ false → segments (b ∷ above)
    ≡ record { first = []; rest = record { barrier = b; run = (segments above).first } ∷ (segments above).rest }
stopped b above e = cond-false (in_run b) _ _ e

pub first-stop : (b : Block) (above : List Block) → in_run b ≡ false → (segments (b ∷ above)).first ≡ []
first-stop b above e = ap (λ (s : Segments). s.first) (stopped b above e)

pub beyond-stop : (b : Block) (above : List Block) → in_run b ≡ false → beyond (segments (b ∷ above)).rest ≡ b ∷ above
beyond-stop b above e = ap (λ (s : Segments). beyond s.rest) (stopped b above e)
    ∙ ap (λ l. b ∷ l) (joined-segments above)

-- it goes on with another block
gone-on : (b : Block) (above : List Block) → in_run b ≡ true → segments (b ∷ above)
    ≡ record { first = b ∷ (segments above).first; rest = (segments above).rest }
gone-on b above e = cond-true (in_run b) _ _ e

pub first-more : (b : Block) (above : List Block) → in_run b ≡ true
    → (segments (b ∷ above)).first ≡ b ∷ (segments above).first
first-more b above e = ap (λ (s : Segments). s.first) (gone-on b above e)

pub beyond-more : (b : Block) (above : List Block) → in_run b ≡ true
    → beyond (segments (b ∷ above)).rest ≡ beyond (segments above).rest
beyond-more b above e = ap (λ (s : Segments). beyond s.rest) (gone-on b above e)

-- what falls from a block on
pub falls-free : (below : Bool) (b : Block) (above : List Block) → is_free b ≡ true
    → cond below (count is_mover (b ∷ above)) (lowered_in_run (b ∷ above)) ≡ count is_mover above
falls-free true (Free n) above e = let z : 0 + count is_mover above ≡ count is_mover above = omega arith in z
falls-free false (Free n) above e = refl
falls-free below (Nonrelocatable id content) above e = let f : false ≡ true = e in cc
falls-free below Masters above e = let f : false ≡ true = e in cc
falls-free below (Relocatable id flags content) above e = let f : false ≡ true = e in cc

pub falls-mover : (b : Block) (above : List Block) → is_free b ≡ false → in_run b ≡ true
    → count is_mover (b ∷ above) ≡ 1 + count is_mover above
falls-mover (Free n) above e l = let f : true ≡ false = e in cc
falls-mover (Nonrelocatable id content) above e l = let f : false ≡ true = l in cc
falls-mover Masters above e l = let f : false ≡ true = l in cc
falls-mover (Relocatable id flags content) above e l = ap {B = ℕ} (λ (t : Bool). cond t 1 0 + count is_mover above) l

pub falls-barrier : (b : Block) (above : List Block) → is_free b ≡ false → in_run b ≡ false
    → count is_mover (b ∷ above) ≡ count is_mover above
falls-barrier (Free n) above e l = let f : true ≡ false = e in cc
falls-barrier (Nonrelocatable id content) above e l = let z : 0 + count is_mover above ≡ count is_mover above = omega arith in z
falls-barrier Masters above e l = let z : 0 + count is_mover above ≡ count is_mover above = omega arith in z
falls-barrier (Relocatable id flags content) above e l = ap {B = ℕ} (λ (t : Bool). cond t 1 0 + count is_mover above) l
    ∙ (let z : 0 + count is_mover above ≡ count is_mover above = omega arith in z)

pub falls-later : (b : Block) (above : List Block) → is_free b ≡ false → lowered_in_run (b ∷ above) ≡ lowered_in_run
    above
falls-later (Free n) above e = let f : true ≡ false = e in cc
falls-later (Nonrelocatable id content) above e = refl
falls-later Masters above e = refl
falls-later (Relocatable id flags content) above e = refl

-- how many so far, and the others, an entry on: a Free one
pub fallen-free : (below below' : Bool) (falls falls' whole : ℕ) (b : Block) (above : List Block) → falls' ≡ falls
    → below' ≡ true → is_free b ≡ true
    → falls + cond below (count is_mover (b ∷ above)) (lowered_in_run (b ∷ above)) ≡ whole
    → falls' + cond below' (count is_mover above) (lowered_in_run above) ≡ whole
fallen-free below below' falls falls' whole b above same is free was =
    ap (λ n. n + cond below' (count is_mover above) (lowered_in_run above)) same
    ∙ ap (λ t. falls + cond t (count is_mover above) (lowered_in_run above)) is
    ∙ ap (λ n. falls + n) (sym (falls-free below b above free)) ∙ was

-- one that falls
pub fallen-mover : (below below' : Bool) (falls falls' whole : ℕ) (b : Block) (above : List Block) → falls' ≡ falls + 1
    → below' ≡ below → is_free b ≡ false → below ≡ true → in_run b ≡ true
    → falls + cond below (count is_mover (b ∷ above)) (lowered_in_run (b ∷ above)) ≡ whole
    → falls' + cond below' (count is_mover above) (lowered_in_run above) ≡ whole
fallen-mover below below' falls falls' whole b above same is other e loose was =
    ap (λ n. n + cond below' (count is_mover above) (lowered_in_run above)) same
    ∙ ap (λ t. (falls + 1) + cond t (count is_mover above) (lowered_in_run above)) (is ∙ e)
    ∙ (let z : (falls + 1) + count is_mover above ≡ falls + (1 + count is_mover above) = omega arith in z)
    ∙ ap (λ n. falls + n) (sym (falls-mover b above other loose))
    ∙ ap (λ t. falls + cond t (count is_mover (b ∷ above)) (lowered_in_run (b ∷ above))) (sym e) ∙ was

-- one that stays where it is
pub fallen-barrier : (below below' : Bool) (falls falls' whole : ℕ) (b : Block) (above : List Block) → falls' ≡ falls
    → below' ≡ below → is_free b ≡ false → below ≡ true → in_run b ≡ false
    → falls + cond below (count is_mover (b ∷ above)) (lowered_in_run (b ∷ above)) ≡ whole
    → falls' + cond below' (count is_mover above) (lowered_in_run above) ≡ whole
fallen-barrier below below' falls falls' whole b above same is other e nonrelocatable was =
    ap (λ n. n + cond below' (count is_mover above) (lowered_in_run above)) same
    ∙ ap (λ t. falls + cond t (count is_mover above) (lowered_in_run above)) (is ∙ e)
    ∙ ap (λ n. falls + n) (sym (falls-barrier b above other nonrelocatable))
    ∙ ap (λ t. falls + cond t (count is_mover (b ∷ above)) (lowered_in_run (b ∷ above))) (sym e) ∙ was

-- one below all Free ones
pub fallen-later : (below below' : Bool) (falls falls' whole : ℕ) (b : Block) (above : List Block) → falls' ≡ falls
    → below' ≡ below → is_free b ≡ false → below ≡ false
    → falls + cond below (count is_mover (b ∷ above)) (lowered_in_run (b ∷ above)) ≡ whole
    → falls' + cond below' (count is_mover above) (lowered_in_run above) ≡ whole
fallen-later below below' falls falls' whole b above same is other e was =
    ap (λ n. n + cond below' (count is_mover above) (lowered_in_run above)) same
    ∙ ap (λ t. falls + cond t (count is_mover above) (lowered_in_run above)) (is ∙ e)
    ∙ ap (λ n. falls + n) (sym (falls-later b above other)) ∙ ap
    (λ t. falls + cond t (count is_mover (b ∷ above)) (lowered_in_run (b ∷ above))) (sym e) ∙ was

-- an entry is cleared
pub cleared-free : (b : Block) → is_free b ≡ true → cleared b ≡ Free 0
cleared-free (Free n) e = refl
cleared-free (Nonrelocatable id content) e = let f : false ≡ true = e in cc
cleared-free Masters e = let f : false ≡ true = e in cc
cleared-free (Relocatable id flags content) e = let f : false ≡ true = e in cc

pub cleared-other : (b : Block) → is_free b ≡ false → cleared b ≡ b
cleared-other (Free n) e = let f : true ≡ false = e in cc
cleared-other (Nonrelocatable id content) e = refl
cleared-other Masters e = refl
cleared-other (Relocatable id flags content) e = refl

cleared-step_at : (bs : List Block) (j : ℕ) → j < length bs → take j (map cleared (take j bs) ++ drop j bs)
    ++ cleared_first (drop j (map cleared (take j bs) ++ drop j bs)) ≡ map cleared (take (suc j) bs) ++ drop (suc j) bs
cleared-step_at [] j within = absurd (let z : j < 0 = within in omega arith)
cleared-step_at (b ∷ bs) zero within = refl
cleared-step_at (b ∷ bs) (suc j) within = ap (λ l. cleared b ∷ l)
    (cleared-step_at bs j (let z : suc j < suc (length bs) = within in omega arith))

-- one block more is cleared
pub cleared-step : (bs : List Block) (j : ℕ) → j < length bs
    → take j (map cleared (take j bs) ++ drop j bs) ++ cleared_first (drop j (map cleared (take j bs) ++ drop j bs))
    ≡ map cleared (take (j + 1) bs) ++ drop (j + 1) bs
cleared-step bs j within = cleared-step_at bs j within ∙ ap (λ n. map cleared (take n bs) ++ drop n bs)
    (let z : suc j ≡ j + 1 = omega arith in z)

-- what is below doesn't matter to what is above
pub tidy-below : (below xs ys : List Block) → tidy xs ≡ tidy ys → tidy (below ++ xs) ≡ tidy (below ++ ys)
tidy-below [] xs ys e = e
tidy-below (b ∷ below) xs ys e = ap (add b) (tidy-below below xs ys e)

pub tidy-free : (n : ℕ) (above : List Block) → tidy (Free n ∷ above) ≡ tidy (free n ++ above)
tidy-free zero above = refl
tidy-free (suc n) above = refl

-- Free blocks of no bytes are dropped
pub tidy-cleared : (run above : List Block) → Loose run → tidy (map cleared run ++ above) ≡ tidy (movers run ++ above)
tidy-cleared [] above l = refl
tidy-cleared (Free n ∷ run) above l = tidy-cleared run above l.1
tidy-cleared (Nonrelocatable id content ∷ run) above l = let f : false ≡ true = l.0 in cc
tidy-cleared (Masters ∷ run) above l = let f : false ≡ true = l.0 in cc
tidy-cleared (Relocatable id flags content ∷ run) above l =
    ap (λ t. Relocatable id flags content ∷ t) (tidy-cleared run above l.1)
    ∙ ap (λ k. tidy (k ++ above)) (sym (cond-true (not flags.locked) (Relocatable id flags content ∷ movers run)
    (movers run) l.0))

pub loose-parts : (xs ys : List Block) → Loose (xs ++ ys) → Loose xs × Loose ys
loose-parts [] ys l = (tt, l)
loose-parts (b ∷ xs) ys l = let r = loose-parts xs ys l.1 in ((l.0, r.0), r.1)

pub loose-append : (xs ys : List Block) → Loose xs → Loose ys → Loose (xs ++ ys)
loose-append [] ys l m = m
loose-append (b ∷ xs) ys l m = (l.0, loose-append xs ys l.1 m)

pub loose-without : (below above : List Block) (b : Block) → Loose (below ++ b ∷ above) → Loose (below ++ above)
loose-without below above b l = let p = loose-parts below (b ∷ above) l in loose-append below above p.0 p.1.1

-- the relocatable blocks without a Free one
pub movers-without : (below above : List Block) (b : Block) → is_free b ≡ true
    → movers (below ++ b ∷ above) ≡ movers (below ++ above)
movers-without below above (Free n) e = filter-append is_mover below (Free n ∷ above)
    ∙ sym (filter-append is_mover below above)
movers-without below above (Nonrelocatable id content) e = let f : false ≡ true = e in cc
movers-without below above Masters e = let f : false ≡ true = e in cc
movers-without below above (Relocatable id flags content) e = let f : false ≡ true = e in cc

-- a run whose Free blocks are cleared, with their bytes at its end
pub tidy-packed : (run below above : List Block) (b : Block) (left : ℕ) → below ++ b ∷ above ≡ run → is_free b ≡ true
    → Loose run
    → (top : List Block) → tidy (map cleared (below ++ above) ++ Free left ∷ top)
    ≡ tidy (movers run ++ free left ++ top)
tidy-packed run below above b left whole free-b loose top =
    tidy-cleared (below ++ above) (Free left ∷ top) (loose-without below above b (subst Loose (sym whole) loose))
    ∙ tidy-below (movers (below ++ above)) (Free left ∷ top) (free left ++ top) (tidy-free left top)
    ∙ sym (ap tidy (append_assoc (movers (below ++ above)) (free left) top))
    ∙ ap (λ l. tidy (l ++ free left ++ top)) (sym (movers-without below above b free-b) ∙ ap movers whole)

-- a run with no Free block
pub movers-all : (run : List Block) → Loose run → has is_free run ≡ false → movers run ≡ run
movers-all [] l e = refl
movers-all (Free n ∷ run) l e = let f : true ≡ false = e in cc
movers-all (Nonrelocatable id content ∷ run) l e = let f : false ≡ true = l.0 in cc
movers-all (Masters ∷ run) l e = let f : false ≡ true = l.0 in cc
movers-all (Relocatable id flags content ∷ run) l e = cond-true (not flags.locked) _ _ l.0
    ∙ ap (λ k. Relocatable id flags content ∷ k) (movers-all run l.1 e)

pub free_sum-none : (run : List Block) → has is_free run ≡ false → free_sum run ≡ 0
free_sum-none [] e = refl
free_sum-none (Free n ∷ run) e = let f : true ≡ false = e in cc
free_sum-none (Nonrelocatable id content ∷ run) e = let r = free_sum-none run e in omega arith
free_sum-none (Masters ∷ run) e = let r = free_sum-none run e in omega arith
free_sum-none (Relocatable id flags content ∷ run) e = let r = free_sum-none run e in omega arith

pub packed-none : (run : List Block) (less : ℕ) → Loose run → has is_free run ≡ false
    → run ≡ movers run ++ free (free_sum run - less)
packed-none run less loose none =
    let n = free_sum-none run none in
    sym (movers-all run loose none) ∙ sym (append-nil (movers run))
    ∙ ap (λ k. movers run ++ free k) (let z : 0 ≡ free_sum run - less = omega arith in z)

-- the last block, and those below it
pub take-last : (bs : List Block) (b : Block) (n : ℕ) → n + 1 ≡ length (bs ++ b ∷ []) → take n (bs ++ b ∷ []) ≡ bs
take-last [] b zero e = refl
take-last [] b (suc n) e = absurd (let z : suc n + 1 ≡ 1 = e in omega arith)
take-last (x ∷ bs) b zero e = absurd (let z : 0 + 1 ≡ suc (length (bs ++ b ∷ [])) = e in
    let n = length-append bs (b ∷ []) in omega arith)
take-last (x ∷ bs) b (suc n) e = ap (λ l. x ∷ l) (take-last bs b n
    (let z : suc n + 1 ≡ suc (length (bs ++ b ∷ [])) = e in omega arith))

pub drop-last : (bs : List Block) (b : Block) (n : ℕ) → n + 1 ≡ length (bs ++ b ∷ []) → drop n (bs ++ b ∷ []) ≡ b ∷ []
drop-last [] b zero e = refl
drop-last [] b (suc n) e = absurd (let z : suc n + 1 ≡ 1 = e in omega arith)
drop-last (x ∷ bs) b zero e = absurd (let z : 0 + 1 ≡ suc (length (bs ++ b ∷ [])) = e in
    let n = length-append bs (b ∷ []) in omega arith)
drop-last (x ∷ bs) b (suc n) e = drop-last bs b n (let z : suc n + 1 ≡ suc (length (bs ++ b ∷ [])) = e in omega arith)

-- the run of an index, where so many blocks are in it
pub run-between : (i n : ℕ) (zone part : List Block) → part ≡ drop i zone → (segments part).first ≡ take n part
    → beyond (segments part).rest ≡ drop n part → run_of_index i zone ≡ run_between i (i + n) zone
run-between i n zone part is first above =
    let first' : (segments (drop i zone)).first ≡ take (i + n - i) (drop i zone) =
    ap (λ l. (segments l).first) (sym is) ∙ first ∙ ap (take n) is
    ∙ ap (λ k. take k (drop i zone)) (let z : n ≡ i + n - i = omega arith in z) in
    let above' : beyond (segments (drop i zone)).rest ≡ drop (i + n) zone =
    ap (λ l. beyond (segments l).rest) (sym is) ∙ above ∙ ap (drop n) is ∙ drop-drop n i zone in
    ap (λ (p : List Block × List Block). record { below = take i zone; run = p.0; above = p.1 })
    (λ k. (first' k, above' k))

others-none : (t : Block → Bool) (bs : List Block) → has t bs ≡ false → others t bs ≡ movers bs
others-none t [] e = refl
others-none t (b ∷ bs) e =
    let p = or_parts (t b) (has t bs) e in
    ap (λ u. cond (is_mover b && not u) (b ∷ others t bs) (others t bs)) p.0
    ∙ ap (λ l. cond (is_mover b && true) (b ∷ l) l) (others-none t bs p.1) ∙ cases (is_mover b)
  where
    cases : (u : Bool) → cond (u && true) (b ∷ movers bs) (movers bs) ≡ cond u (b ∷ movers bs) (movers bs)
    cases true = refl
    cases false = refl

others-one : (t : Block → Bool) (b : Block) (bs : List Block) → t b ≡ true → others t (b ∷ bs) ≡ others t bs
others-one t b bs e = ap (λ u. cond (is_mover b && not u) (b ∷ others t bs) (others t bs)) e ∙ cases (is_mover b)
  where
    cases : (u : Bool) → cond (u && false) (b ∷ others t bs) (others t bs) ≡ others t bs
    cases true = refl
    cases false = refl

free_of-relocatable : (k : ℕ) (b : Block) → is_relocatable k b ≡ true → free_of b ≡ 0
free_of-relocatable k (Free n) e = let f : false ≡ true = e in cc
free_of-relocatable k (Nonrelocatable id content) e = refl
free_of-relocatable k Masters e = refl
free_of-relocatable k (Relocatable id flags content) e = refl

-- the only one that passes
pub once-below : (t : Block → Bool) (below above : List Block) (b : Block) → t b ≡ true
    → count t (below ++ b ∷ above) ≤ 1 → (has t below ≡ false) × (has t above ≡ false)
once-below t below above b e once =
    let n : cond {A = ℕ} (t b) 1 0 ≡ 1 = ap {B = ℕ} (λ (u : Bool). cond u 1 0) e in
    let all : count t (below ++ b ∷ above) ≡ count t below + (cond {A = ℕ} (t b) 1 0 + count t above) =
    total-append (λ (x : Block). cond {A = ℕ} (t x) 1 0) below (b ∷ above) in
    (none-count t below (omega arith), none-count t above (omega arith))

-- a run with the block of a slot at its top
pub high-is : (k : ℕ) (run below above : List Block) (b : Block) → below ++ b ∷ above ≡ run → is_relocatable k b ≡ true
    → count (is_relocatable k) run ≤ 1
    → high (is_relocatable k) run ≡ packed 0 (below ++ above) ++ b ∷ []
high-is k run below above b whole e once =
    let t = is_relocatable k in
    let P : List Block → Type 0 = λ l. count t l ≤ 1 in
    let none = once-below t below above b e (subst P (sym whole) once) in
    let others-is : others t run ≡ movers (below ++ above) =
    ap (others t) (sym whole) ∙ filter-append (λ x. is_mover x && not (t x)) below (b ∷ above)
    ∙ ap (λ l. others t below ++ l) (others-one t b above e ∙ others-none t above none.1)
    ∙ ap (λ l. l ++ movers above) (others-none t below none.0) ∙ sym (filter-append is_mover below above) in
    let sum-is : free_sum run ≡ free_sum (below ++ above) - 0 =
    ap free_sum (sym whole) ∙ (let a = total-append free_of below (b ∷ above) in
    let c = total-append free_of below above in let z = free_of-relocatable k b e in omega arith) in
    let one-is : filter t run ≡ b ∷ [] =
    ap (filter t) (sym whole) ∙ filter-append t below (b ∷ above)
    ∙ ap (λ l. l ++ filter t (b ∷ above)) (filter-none t below none.0) ∙ cond-true (t b) _ _ e
    ∙ ap (λ l. b ∷ l) (filter-none t above none.1) in
    ap (λ l. l ++ free (free_sum run) ++ filter t run) others-is
    ∙ ap (λ n. movers (below ++ above) ++ free n ++ filter t run) sum-is
    ∙ ap (λ l. movers (below ++ above) ++ free (free_sum (below ++ above) - 0) ++ l) one-is

pub high-done : (k : ℕ) (run rest after : List Block) (s : Spot) → s.below ++ s.here ∷ s.above ≡ run
    → is_relocatable k s.here ≡ true → count (is_relocatable k) run ≤ 1 → rest ≡ s.below ++ s.above
    → ((top : List Block) → tidy (after ++ top) ≡ tidy (packed 0 rest ++ top)) → (top : List Block)
    → tidy (after ++ s.here ∷ [] ++ top) ≡ tidy (high (is_relocatable k) run ++ top)
high-done k run rest after s whole e once is packs top =
    ap tidy (append_assoc after (s.here ∷ []) top) ∙ packs (s.here ∷ top)
    ∙ ap (λ l. tidy (packed 0 l ++ s.here ∷ top)) is
    ∙ sym (ap tidy (append_assoc (packed 0 (s.below ++ s.above)) (s.here ∷ []) top))
    ∙ ap (λ l. tidy (l ++ top)) (sym (high-is k run s.below s.above s.here whole e once))

-- a measure of the parts of a run
movers-total : (of : Block → ℕ) → Adds of → (run : List Block) → Loose run
    → total of (movers run) + of (Free (free_sum run)) ≡ total of run
movers-total of adds [] l = let z : of (Free (0 + 0)) ≡ of (Free 0) + of (Free 0) = adds 0 0 in omega arith
movers-total of adds (Free n ∷ run) l = let r = movers-total of adds run l.1 in
    let a : of (Free (n + free_sum run)) ≡ of (Free n) + of (Free (free_sum run)) = adds n (free_sum run) in omega arith
movers-total of adds (Nonrelocatable id content ∷ run) l = let f : false ≡ true = l.0 in cc
movers-total of adds (Masters ∷ run) l = let f : false ≡ true = l.0 in cc
movers-total of adds (Relocatable id flags content ∷ run) l =
    let r = movers-total of adds run l.1 in
    let e : total of (movers (Relocatable id flags content ∷ run))
    ≡ of (Relocatable id flags content) + total of (movers run) =
    ap (total of) (cond-true (not flags.locked) _ _ l.0) in
    let z : of (Free (0 + free_sum run)) ≡ of (Free (free_sum run)) =
    ap (λ n. of (Free n)) (let y : 0 + free_sum run ≡ free_sum run = omega arith in y) in
    omega arith

free-total : (of : Block → ℕ) → Adds of → (n : ℕ) → total of (free n) ≡ of (Free n)
free-total of adds zero = let z : of (Free (0 + 0)) ≡ of (Free 0) + of (Free 0) = adds 0 0 in omega arith
free-total of adds (suc n) = omega arith

pub packed-total : (of : Block → ℕ) → Adds of → (less : ℕ) (run : List Block) → Loose run → less ≤ free_sum run
    → total of (packed less run) + of (Free less) ≡ total of run
packed-total of adds less run loose le =
    let a = total-append of (movers run) (free (free_sum run - less)) in
    let b = free-total of adds (free_sum run - less) in
    let c = movers-total of adds run loose in
    let d : of (Free (free_sum run - less + less)) ≡ of (Free (free_sum run - less)) + of (Free less) =
    adds (free_sum run - less) less in
    let e : of (Free (free_sum run - less + less)) ≡ of (Free (free_sum run)) =
    ap (λ n. of (Free n)) (let y : free_sum run - less + less ≡ free_sum run = omega arith in y) in
    omega arith

others-total : (of : Block → ℕ) (k : ℕ) (run : List Block) → Loose run
    → total of (others (is_relocatable k) run) + total of (filter (is_relocatable k) run) ≡ total of (movers run)
others-total of k [] l = omega arith
others-total of k (Free n ∷ run) l = others-total of k run l.1
others-total of k (Nonrelocatable id content ∷ run) l = let f : false ≡ true = l.0 in cc
others-total of k (Masters ∷ run) l = let f : false ≡ true = l.0 in cc
others-total of k (Relocatable id flags content ∷ run) l = cases (not flags.locked) l.0 (id == k)
    (others-total of k run l.1)
  where
    b : Block
    b = Relocatable id flags content

    cases : (u : Bool) → u ≡ true → (v : Bool) → total of (others (is_relocatable k) run) + total of
        (filter (is_relocatable k) run) ≡ total of (movers run)
        → total of (cond (u && not v) (b ∷ others (is_relocatable k) run) (others (is_relocatable k) run)) + total of
        (cond v (b ∷ filter (is_relocatable k) run) (filter (is_relocatable k) run))
        ≡ total of (cond u (b ∷ movers run) (movers run))
    cases false e v r = let f : false ≡ true = e in cc
    cases true e true r = omega arith
    cases true e false r = omega arith

pub high-total : (of : Block → ℕ) → Adds of → (k : ℕ) (run : List Block) → Loose run
    → total of (high (is_relocatable k) run) ≡ total of run
high-total of adds k run loose =
    let t = is_relocatable k in
    let a = total-append of (others t run ++ free (free_sum run)) (filter t run) in
    let b = total-append of (others t run) (free (free_sum run)) in
    let c = free-total of adds (free_sum run) in
    let d = others-total of k run loose in
    let e = movers-total of adds run loose in
    omega arith

-- a run is part of all
pub total-run : (of : Block → ℕ) (change : List Block → List Block) (r : RunSpot)
    → total of (with_run change r) ≡ total of r.below + total of (change r.run) + total of r.above
total-run of change r = total-append of (r.below ++ change r.run) r.above
    ∙ ap (λ n. n + total of r.above) (total-append of r.below (change r.run))

pub between-whole : (start end : ℕ) (zone : List Block) → start ≤ end
    → take start zone ++ take (end - start) (drop start zone) ++ drop end zone ≡ zone
between-whole start end zone order =
    append_assoc (take start zone) (take (end - start) (drop start zone)) (drop end zone)
    ∙ ap (λ l. take start zone ++ (take (end - start) (drop start zone) ++ l))
    (ap (λ k. drop k zone) (let z : end ≡ start + (end - start) = omega arith in z)
    ∙ sym (drop-drop (end - start) start zone))
    ∙ ap (λ l. take start zone ++ l) (take-append-drop (end - start) (drop start zone)) ∙ take-append-drop start zone

pub total-between : (of : Block → ℕ) (start end : ℕ) (zone : List Block) → start ≤ end
    → total of (take start zone) + total of (take (end - start) (drop start zone)) + total of (drop end zone)
    ≡ total of zone
total-between of start end zone order = sym (total-run of (λ l. l) (run_between start end zone))
    ∙ ap (total of) (between-whole start end zone order)

-- a run is written, and all is tidy
pub tidy-run : (below above part : List Block) (change : List Block → List Block) (run : List Block)
    → ((top : List Block) → tidy (part ++ top) ≡ tidy (change run ++ top))
    → tidy (below ++ part ++ above) ≡ tidy (below ++ change run ++ above)
tidy-run below above part change run same =
    ap tidy (append_assoc below part above) ∙ tidy-below below (part ++ above) (change run ++ above) (same above)
    ∙ sym (ap tidy (append_assoc below (change run) above))

-- entries that are tidied to a run's change take no more bytes than before, where the run doesn't
pub changed-fits : (change : List Block → List Block) (after zone : List Block) (start end n : ℕ) → start ≤ end
    → tidy after ≡ tidy (with_run change (run_between start end zone))
    → sizes (change (run_between start end zone).run) ≤ sizes (run_between start end zone).run → sizes zone < n
    → sizes after < n
changed-fits change after zone start end n order is less fits =
    let r = run_between start end zone in
    let same = sym (total-tidy size (λ n m. refl) after) ∙ ap sizes is
    ∙ total-tidy size (λ n m. refl) (with_run change r) ∙ total-run size change r in
    let whole = total-between size start end zone order in
    omega arith

-- a block is put in
inserted-take : (n : ℕ) (x : Block) (bs : List Block) → n ≤ length bs
    → take (suc n) (take n bs ++ x ∷ drop n bs) ≡ take n bs ++ x ∷ []
inserted-take zero x bs within = refl
inserted-take (suc n) x [] within = absurd (let z : suc n ≤ 0 = within in omega arith)
inserted-take (suc n) x (b ∷ bs) within = ap (λ l. b ∷ l) (inserted-take n x bs
    (let z : suc n ≤ suc (length bs) = within in omega arith))

inserted-drop : (n : ℕ) (x : Block) (bs : List Block) → n ≤ length bs
    → drop (suc n) (take n bs ++ x ∷ drop n bs) ≡ drop n bs
inserted-drop zero x bs within = refl
inserted-drop (suc n) x [] within = absurd (let z : suc n ≤ 0 = within in omega arith)
inserted-drop (suc n) x (b ∷ bs) within = inserted-drop n x bs (let z : suc n ≤ suc (length bs) = within in omega arith)

inserted-above : (n m : ℕ) (x : Block) (bs : List Block) → n ≤ m → n ≤ length bs
    → drop (m + 1) (take n bs ++ x ∷ drop n bs) ≡ drop m bs
inserted-above n m x bs order within =
    ap (λ k. drop k (take n bs ++ x ∷ drop n bs)) (let z : m + 1 ≡ suc n + (m - n) = omega arith in z)
    ∙ sym (drop-drop (m - n) (suc n) (take n bs ++ x ∷ drop n bs))
    ∙ ap (drop (m - n)) (inserted-drop n x bs within) ∙ drop-drop (m - n) n bs
    ∙ ap (λ k. drop k bs) (let z : n + (m - n) ≡ m = omega arith in z)

-- the run above a block that is put in at its bottom
pub run-above : (start end : ℕ) (x : Block) (zone : List Block) → start ≤ end → end ≤ length zone
    → run_between (start + 1) (end + 1) (take start zone ++ x ∷ drop start zone)
    ≡ record {
      below = take start zone ++ x ∷ [];
      run = take (end - start) (drop start zone);
      above = drop end
          zone;
    }
run-above start end x zone order within =
    let below : take (start + 1) (take start zone ++ x ∷ drop start zone) ≡ take start zone ++ x ∷ [] =
    ap (λ k. take k (take start zone ++ x ∷ drop start zone)) (let z : start + 1 ≡ suc start = omega arith in z)
    ∙ inserted-take start x zone (omega arith) in
    let run : take (end + 1 - (start + 1)) (drop (start + 1) (take start zone ++ x ∷ drop start zone))
    ≡ take (end - start) (drop start zone) =
    ap (λ k. take k (drop (start + 1) (take start zone ++ x ∷ drop start zone)))
    (let z : end + 1 - (start + 1) ≡ end - start = omega arith in z)
    ∙ ap (take (end - start)) (inserted-above start start x zone (omega arith) (omega arith)) in
    let above : drop (end + 1) (take start zone ++ x ∷ drop start zone) ≡ drop end zone =
    inserted-above start end x zone order (omega arith) in
    ap (λ (p : List Block × (List Block × List Block)). record { below = p.0; run = p.1.0; above = p.1.1 })
    (λ k. (below k, (run k, above k)))

pub raised-fits : (bytes start end : ℕ) (zone : List Block) → start ≤ end
    → bytes ≤ free_sum (take (end - start) (drop start zone)) → sizes zone < 2147483648
    → sizes (take start zone ++ Free bytes ∷ drop start zone) < 4294967296
raised-fits bytes start end zone order le fits =
    let a = total-append size (take start zone) (Free bytes ∷ drop start zone) in
    let b = total-append size (take start zone) (drop start zone) in
    let c = ap sizes (take-append-drop start zone) in
    let d = total-between size start end zone order in
    let e = total-le free_of size free_of-le (take (end - start) (drop start zone)) in
    omega arith

-- a run is packed above the block that was put in at its bottom
pub raised-run : (bytes start end : ℕ) (zone : List Block) → start ≤ end → end ≤ length zone
    → with_run (packed bytes) (run_between (start + 1) (end + 1) (take start zone ++ Free bytes ∷ drop start zone))
    ≡ with_run (low (Free bytes)) (run_between start end zone)
raised-run bytes start end zone order within =
    ap (with_run (packed bytes)) (run-above start end (Free bytes) zone order within)
    ∙ ap (λ l. l ++ drop end zone) (append_assoc (take start zone) (Free bytes ∷ [])
    (packed bytes (take (end - start) (drop start zone))))

-- the run at a place has the bytes that it must have
pub free-enough : (bytes : ℕ) (zone : List Block) (place : ℕ) (r : RunSpot) → run_at place zone ≡ Some r
    → IsSomeAnd (run_at place zone) (λ s. IsTrue (has_free bytes s.run)) → bytes ≤ free_sum r.run
free-enough bytes zone place r found enough =
    let P : Option RunSpot → Type 0 = λ o. IsSomeAnd o (λ (s : RunSpot). IsTrue (has_free bytes s.run)) in
    let t : nat_le bytes (free_sum r.run) ≡ true = subst P found enough in
    grind (arith, nat_tests)

-- a run with Free bytes put in below it, which it has
pub record Raised (zone after : List Block) (place bytes start end : ℕ) : Type 0 where
  pub found : run_at place zone ≡ Some (run_between start end zone)
  pub fits : sizes after < 4294967296
  pub loose : Loose (run_between (start + 1) (end + 1) after).run
  pub less : bytes ≤ free_sum (run_between (start + 1) (end + 1) after).run
  pub done : with_run (packed bytes) (run_between (start + 1) (end + 1) after)
      ≡ with_run (low (Free bytes)) (run_between start end zone)

pub settle-total : (of : Block → ℕ) → Adds of → (run : List Block) → Loose run → total of (settle run) ≡ total of run
settle-total of adds run loose =
    let a = total-append of (movers run) (free (free_sum run)) in
    let b = free-total of adds (free_sum run) in
    let c = movers-total of adds run loose in
    omega arith

pub low-total : (of : Block → ℕ) → Adds of → (bytes : ℕ) (run : List Block) → Loose run → bytes ≤ free_sum run
    → total of (low (Free bytes) run) ≡ total of run
low-total of adds bytes run loose le = let a = packed-total of adds bytes run loose le in
    let z : of (Free bytes) + total of (packed bytes run) ≡ total of run = omega arith in z
