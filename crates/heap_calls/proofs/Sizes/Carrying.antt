use Rattle.heap_calls.proofs.Cited.{◌≡◌, ℕ, ◌+◌, ◌-◌, ◌≤◌, ◌<◌, zero, suc, Bool, true, false, not, ◌&&◌, ◌||◌, ◌==◌, List, [], ◌∷◌, ◌++◌}
use Rattle.heap_calls.proofs.Cited.{refl, sym, ◌∙◌, ap, subst, cond, arith, Option, Some, None, filter, is_some, nat_le, append_assoc}
use Rattle.heap_calls.proofs.Cited.{none-some, same_Some, cond-true, cond-false, le-leb, leb-true, and_parts, find-append, filter-append}
use Rattle.heap_calls.proofs.Cited.{find, option_map, option_or, IfSome, IsSome, IsSomeAnd, IsTrue, padded, phys, Block, Free}
use Rattle.heap_calls.proofs.Cited.{Nonrelocatable, Masters, Relocatable, size, count, free_sum, free_of, free, is_mover, is_room}
use Rattle.heap_calls.proofs.Cited.{is_relocatable, tidy, resized, has, has_free, movers, others, high, settle, with_run, RunSpot, run_spot}
use Rattle.heap_calls.proofs.Cited.{run_at, Spot, raised, spot, spot_at, place, filled, growth, taken, grow_up, grow_mover}
use Rattle.heap_calls.proofs.Cited.{FindsLowestRun, spot-passes, total-append, free_sum-free, none-count, size-resized, filter-none}
use Rattle.heap_calls.proofs.Cited.{none-append, has-count, place-room, run_spot-passes, run_at-parts, Loose, purged, spared, Sparing}
use Rattle.heap_calls.proofs.Cited.{moved_away, Rest, IsRest, KeepsSlots, with_moves, with_placed, lowered_in_run, FindsPlacement, IsAt}
use Rattle.heap_calls.proofs.Cited.{Placement, grown, Spares, OpensNone, FindsGrowth, IsToGrow, block_of, SameBlocks}
use Rattle.heap_calls.proofs.Cited.{CanGrowUp, GrewUp, put_run, run_at-change, tidy-change, apart-settle, apart-high}
use Rattle.heap_calls.proofs.Cited.{all-high, opened, purge, counted, some_and, Grow, is_same, lowered_by, purges_for, Packs, Sought}
use Rattle.heap_calls.proofs.Cited.{Anchor, gone_from, Went, seek_growth, told_named, told_along}
use Rattle.std.proofs.lemmas.List.{append-nil}
use Rattle.heap_calls.specs.declared.growing.Growth.TheVariants as grows
use Rattle.heap_calls.proofs.Going.{went-none, went-some, gone-none, gone-some, goes-named}
use Rattle.heap_calls.proofs.Same.Growing.{grown-named}
use Rattle.heap_calls.proofs.Sizes.Growth.{opened-whole, find-purged, find-tidy, spot-find, growth-stays}
use Rattle.heap_calls.proofs.Numbering.Changing.{phys-some}
use Rattle.block_store.proofs.Regroup.Regrouping.{changed}

-- The growth of a block that may move, carried out.

-- of a packed run
find-settle : (t : Block → Bool) → ((n : ℕ) → t (Free n) ≡ false) → (run : List Block) → Loose run
    → find t (movers run) ≡ find t run
find-settle t none [] all = refl
find-settle t none (Free n ∷ run) all = find-settle t none run all.1 ∙ sym (cond-false (t (Free n)) _ _ (none n))
find-settle t none (Nonrelocatable id content ∷ run) all = let f : false ≡ true = all.0 in cc
find-settle t none (Masters ∷ run) all = let f : false ≡ true = all.0 in cc
find-settle t none (Relocatable id flags content ∷ run) all =
    cases (not flags.locked) all.0 (find-settle t none run all.1)
  where
    b : Block
    b = Relocatable id flags content

    cases : (u : Bool) → u ≡ true → find t (movers run) ≡ find t run
        → find t (cond u (b ∷ movers run) (movers run)) ≡ cond (t b) (Some b) (find t run)
    cases true e more = ap (cond (t b) (Some b)) more
    cases false e more = let f : false ≡ true = e in cc

pub find-free : (t : Block → Bool) → ((n : ℕ) → t (Free n) ≡ false) → (n : ℕ) → find t (free n) ≡ None
find-free t none zero = refl
find-free t none (suc n) = cond-false (t (Free (suc n))) _ _ (none (suc n))

pub find-settled : (t : Block → Bool) → ((n : ℕ) → t (Free n) ≡ false) → (run : List Block) → Loose run
    → find t (settle run) ≡ find t run
find-settled t none run all =
    find-append t (movers run) (free (free_sum run)) ∙ ap (λ (o : Option Block). option_or o
    (find t (free (free_sum run)))) (find-settle t none run all)
    ∙ ap (option_or (find t run)) (find-free t none (free_sum run)) ∙ or-none (find t run)
  where
    or-none : (o : Option Block) → option_or o None ≡ o
    or-none None = refl
    or-none (Some b) = refl

find-put : (t : Block → Bool) (run run' : List Block) (r : RunSpot) → find t run' ≡ find t run
    → find t (put_run run' r) ≡ find t (put_run run r)
find-put t run run' r e =
    find-append t (r.below ++ run') r.above ∙ ap (λ (o : Option Block). option_or o (find t r.above))
    (find-append t r.below run' ∙ ap (option_or (find t r.below)) e ∙ sym (find-append t r.below run))
    ∙ sym (find-append t (r.below ++ run) r.above)

-- each slot leads to the same block once a run is packed
pub settle-blocks : (place : ℕ) (zone : List Block) (r : RunSpot) → run_at place zone ≡ Some r
    → SameBlocks zone (tidy (with_run settle r))
settle-blocks place zone r e number =
    spot-find (is_relocatable number) (tidy (with_run settle r))
    ∙ find-tidy (is_relocatable number) (λ n. refl) (with_run settle r)
    ∙ find-put (is_relocatable number) r.run (settle r.run) r (find-settled (is_relocatable number) (λ n. refl) r.run
    (run_at-parts place zone r e).loose)
    ∙ ap (find (is_relocatable number)) (run_at-parts place zone r e).whole
    ∙ sym (spot-find (is_relocatable number) zone)

-- the block at n bytes of content is the same where the slot leads to the same block
pub grown-same : (n : ℕ) (a b : Option Spot) → option_map (λ (s : Spot). s.here) a ≡ option_map (λ (s : Spot). s.here) b
    → grown n a ≡ grown n b
grown-same n None None e = refl
grown-same n None (Some s) e = absurd (none-some _ e)
grown-same n (Some s) None e = absurd (none-some _ (sym e))
grown-same n (Some s) (Some t) e = ap (resized n) (same_Some _ _ e)

-- the spot that there is
pub here-same : (a b : Option Spot) (s : Spot) → a ≡ Some s → option_map (λ (s : Spot). s.here) b
    ≡ option_map (λ (s : Spot). s.here) a → (t : Spot) × (b ≡ Some t) × (t.here ≡ s.here)
here-same a None s is e = absurd (none-some _ (e ∙ ap (option_map (λ (s : Spot). s.here)) is))
here-same a (Some t) s is e = (t, refl, same_Some _ _ (e ∙ ap (option_map (λ (s : Spot). s.here)) is))

-- blocks that pass one test pass another
filter-within : (p q : Block → Bool) → ((b : Block) → p b ≡ true → q b ≡ true) → (xs : List Block)
    → filter q (filter p xs) ≡ filter p xs
filter-within p q within [] = refl
filter-within p q within (x ∷ xs) = cases (p x) refl (filter-within p q within xs)
  where
    cases : (t : Bool) → p x ≡ t → filter q (filter p xs) ≡ filter p xs
        → filter q (cond t (x ∷ filter p xs) (filter p xs)) ≡ cond t (x ∷ filter p xs) (filter p xs)
    cases true e more = cond-true (q x) _ _ (within x e) ∙ ap (λ l. x ∷ l) more
    cases false e more = more

-- a relocatable block of a run is unlocked
movers-filter : (number : ℕ) (run : List Block) → Loose run → movers (filter (is_relocatable number) run)
    ≡ filter (is_relocatable number) run
movers-filter number [] all = refl
movers-filter number (Free n ∷ run) all = movers-filter number run all.1
movers-filter number (Nonrelocatable id content ∷ run) all = movers-filter number run all.1
movers-filter number (Masters ∷ run) all = movers-filter number run all.1
movers-filter number (Relocatable id flags content ∷ run) all = cases (id == number) (movers-filter number run all.1)
  where
    cases : (t : Bool) → movers (filter (is_relocatable number) run) ≡ filter (is_relocatable number) run
        → movers (cond t (Relocatable id flags content ∷ filter (is_relocatable number) run)
        (filter (is_relocatable number) run)) ≡ cond t (Relocatable id flags content
        ∷ filter (is_relocatable number) run) (filter (is_relocatable number) run)
    cases true more = cond-true (not flags.locked) _ _ all.0 ∙ ap (λ l. Relocatable id flags content ∷ l) more
    cases false more = more

-- the blocks that pass take no Free bytes
free_sum-filter : (p : Block → Bool) → ((n : ℕ) → p (Free n) ≡ false) → (run : List Block) → free_sum (filter p run) ≡ 0
free_sum-filter p none [] = refl
free_sum-filter p none (b ∷ run) = cases (p b) refl (free_sum-filter p none run)
  where
    one : (b : Block) → p b ≡ true → free_of b ≡ 0
    one (Free n) e = let f : true ≡ false = sym e ∙ none n in cc
    one (Nonrelocatable id content) e = refl
    one Masters e = refl
    one (Relocatable id flags content) e = refl

    cases : (t : Bool) → p b ≡ t → free_sum (filter p run) ≡ 0 → free_sum (cond t (b ∷ filter p run) (filter p run)) ≡ 0
    cases true e more = let z = one b e in let g : free_of b + free_sum (filter p run) ≡ 0 = omega arith in g
    cases false e more = more

free_sum-high : (number : ℕ) (run : List Block) → free_sum (high (is_relocatable number) run) ≡ free_sum run
free_sum-high number run =
    let t = is_relocatable number in
    let a : free_sum (high t run) ≡ free_sum (others t run ++ free (free_sum run)) + free_sum (filter t run) =
    total-append free_of (others t run ++ free (free_sum run)) (filter t run) in
    let b : free_sum (others t run ++ free (free_sum run)) ≡ free_sum (others t run) + free_sum (free (free_sum run)) =
    total-append free_of (others t run) (free (free_sum run)) in
    let c : free_sum (others t run) ≡ 0 = free_sum-filter (λ b. is_mover b && not (t b)) (λ n. refl) run in
    let d : free_sum (filter t run) ≡ 0 = free_sum-filter t (λ n. refl) run in
    let e = free_sum-free (free_sum run) in
    omega (arith, a, b, c, d, e)

movers-free : (n : ℕ) → movers (free n) ≡ []
movers-free zero = refl
movers-free (suc n) = refl

both-true : (a b : Bool) → (a && b) ≡ true → a ≡ true
both-true true b e = refl
both-true false b e = e

-- the blocks of a run with one moved to its top, in order
movers-high : (number : ℕ) (run : List Block) → Loose run → movers (high (is_relocatable number) run)
    ≡ others (is_relocatable number) run ++ filter (is_relocatable number) run
movers-high number run all =
    let t = is_relocatable number in
    filter-append is_mover (others t run ++ free (free_sum run)) (filter t run)
    ∙ ap (λ l. l ++ movers (filter t run)) (filter-append is_mover (others t run) (free (free_sum run))
    ∙ ap (λ l. movers (others t run) ++ l) (movers-free (free_sum run)) ∙ append-nil (movers (others t run))
    ∙ filter-within (λ b. is_mover b && not (t b)) is_mover (λ b e. both-true (is_mover b) (not (t b)) e) run)
    ∙ ap (λ l. others t run ++ l) (movers-filter number run all)

-- a run with one block moved to its top, then packed
pub settle-high : (number : ℕ) (run : List Block) → Loose run
    → settle (high (is_relocatable number) run) ≡ others (is_relocatable number) run
    ++ filter (is_relocatable number) run ++ free (free_sum run)
settle-high number run all = ap (λ l. l ++ free (free_sum (high (is_relocatable number) run)))
    (movers-high number run all) ∙ ap (λ n. others (is_relocatable number) run ++ filter (is_relocatable number) run
    ++ free n) (free_sum-high number run)

-- the others don't pass
pub has-others : (t : Block → Bool) (run : List Block) → has t (others t run) ≡ false
has-others t [] = refl
has-others t (b ∷ run) = cases (is_mover b) (t b) refl (has-others t run)
  where
    cases : (m u : Bool) → t b ≡ u → has t (others t run) ≡ false
        → has t (cond (m && not u) (b ∷ others t run) (others t run)) ≡ false
    cases true true e more = more
    cases true false e more = ap (λ v. v || has t (others t run)) e ∙ more
    cases false u e more = more

-- the one block that passes
filter-one : (t : Block → Bool) (bs : List Block) (x : Block) → count t bs ≤ 1 → find t bs ≡ Some x
    → filter t bs ≡ x ∷ []
filter-one t [] x le e = absurd (none-some _ e)
filter-one t (b ∷ bs) x le e = cases (t b) refl le e (filter-one t bs x)
  where
    cases : (u : Bool) → t b ≡ u → cond {A = ℕ} (t b) 1 0 + count t bs ≤ 1 → cond u (Some b) (find t bs) ≡ Some x
        → (count t bs ≤ 1 → find t bs ≡ Some x → filter t bs ≡ x ∷ []) → cond u (b ∷ filter t bs) (filter t bs) ≡ x ∷ []
    cases true is le e more =
        let a : cond {A = ℕ} (t b) 1 0 ≡ 1 = ap {B = ℕ} (λ (v : Bool). cond v 1 0) is in
        ap (λ l. b ∷ l) (filter-none t bs (none-count t bs (omega arith))) ∙ ap (λ c. c ∷ []) (same_Some _ _ e)
    cases false is le e more = more (omega arith) e

pub find-none : (t : Block → Bool) (bs : List Block) → has t bs ≡ false → find t bs ≡ None
find-none t [] e = refl
find-none t (b ∷ bs) e = cases (t b) e (find-none t bs)
  where
    cases : (u : Bool) → (u || has t bs) ≡ false → (has t bs ≡ false → find t bs ≡ None)
        → cond u (Some b) (find t bs) ≡ None
    cases true e more = let f : true ≡ false = e in cc
    cases false e more = more e

find-some : (t : Block → Bool) (bs : List Block) → has t bs ≡ true → (x : Block) × (find t bs ≡ Some x)
find-some t [] e = let f : false ≡ true = e in cc
find-some t (b ∷ bs) e = cases (t b) e (find-some t bs)
  where
    cases : (u : Bool) → (u || has t bs) ≡ true → (has t bs ≡ true → (x : Block) × (find t bs ≡ Some x)) → (x : Block)
        × (cond u (Some b) (find t bs) ≡ Some x)
    cases true e more = (b, refl)
    cases false e more = more e

-- the lowest block that passes stands above those that don't
spot-past : (t : Block → Bool) (xs : List Block) (b : Block) (ys : List Block) → has t xs ≡ false → t b ≡ true
    → spot t (xs ++ b ∷ ys) ≡ Some (record { below = xs; here = b; above = ys })
spot-past t [] b ys none is = cond-true (t b) _ _ is
spot-past t (x ∷ xs) b ys none is = cases (t x) none (spot-past t xs b ys)
  where
    cases : (u : Bool) → (u || has t xs) ≡ false → (has t xs ≡ false → t b ≡ true
        → spot t (xs ++ b ∷ ys) ≡ Some (record { below = xs; here = b; above = ys }))
        → cond u (Some (record { below = []; here = x; above = xs ++ b ∷ ys }))
        (option_map (raised x) (spot t (xs ++ b ∷ ys))) ≡ Some (record { below = x ∷ xs; here = b; above = ys })
    cases true e more = let f : true ≡ false = e in cc
    cases false e more = ap (option_map (raised x)) (more e is)

-- so many of n Free bytes are taken
pub taken-free : (d n : ℕ) (above : List Block) → 0 < d → d ≤ n
    → taken d (free n ++ above) ≡ Some (free (n - d) ++ above)
taken-free d zero above pos le = absurd (omega arith)
taken-free d (suc n) above pos le = cond-true (nat_le d (suc n)) _ _ (le-leb d (suc n) le)

-- the lowest block that passes is in the run, where only one passes in the zone
module _ (number : ℕ) (zone : List Block) (place : ℕ) (r : RunSpot) (s : Spot) (tidied : tidy zone ≡ zone)
    (once : count (is_relocatable number) zone ≤ 1)
    (at : run_at place zone ≡ Some r) (passes : has (is_relocatable number) r.run ≡ true)
    (found : spot (is_relocatable number) zone ≡ Some s)
  where
    abbrev mine : Block → Bool
    mine = is_relocatable number

    abbrev frees : ℕ
    frees = free_sum r.run

    one-run : (count mine r.below ≡ 0) × (count mine r.run ≤ 1)
    one-run =
        let a : count mine zone ≡ count mine (put_run r.run r) =
        ap (count mine) (sym (run_at-parts place zone r at).whole) in
        let b : count mine (put_run r.run r) ≡ count mine (r.below ++ r.run) + count mine r.above =
        total-append (λ b. cond (mine b) 1 0) (r.below ++ r.run) r.above in
        let c : count mine (r.below ++ r.run) ≡ count mine r.below + count mine r.run =
        total-append (λ b. cond (mine b) 1 0) r.below r.run in
        let some : 1 ≤ count mine r.run = has-count mine r.run passes in
        (omega (arith, once), omega (arith, once))

    none-below : has mine r.below ≡ false
    none-below = none-count mine r.below (let z = one-run.0 in omega arith)

    here-find : find mine r.run ≡ Some s.here
    here-find =
        let x = find-some mine r.run passes in
        let a : find mine (put_run r.run r) ≡ Some x.0 = find-append mine (r.below ++ r.run) r.above
        ∙ ap (λ (o : Option Block). option_or o (find mine r.above))
        (find-append mine r.below r.run ∙ ap (λ (o : Option Block). option_or o (find mine r.run))
        (find-none mine r.below none-below) ∙ x.1) in
        let b : find mine zone ≡ Some s.here = sym (spot-find mine zone)
        ∙ ap (option_map (λ (s : Spot). s.here)) found in
        x.1 ∙ sym a ∙ ap (find mine) (run_at-parts place zone r at).whole ∙ b

    one : filter mine r.run ≡ s.here ∷ []
    one = filter-one mine r.run s.here one-run.1 here-find

    here-passes : mine s.here ≡ true
    here-passes = spot-passes mine zone s found

    -- once the block is moved to the top of its run
    abbrev high-run : List Block
    high-run = high mine r.run

    module _ (zone1 : List Block) (hoisted : IfSome (run_at place zone) (λ r. zone1 ≡ tidy (with_run (high mine) r)))
      where
        high-zone : zone1 ≡ put_run high-run r
        high-zone =
            let P : Option RunSpot → Type 0 = λ o. IfSome o (λ r. zone1 ≡ tidy (with_run (high mine) r)) in
            let is : zone1 ≡ tidy (with_run (high mine) r) = subst P at hoisted in
            is ∙ tidy-change place zone r at tidied high-run (apart-high mine (λ n. refl) r.run)

        pub high-at : run_at place zone1 ≡ Some (changed high-run r)
        high-at = ap (run_at place) high-zone ∙ run_at-change place zone r at high-run
            (all-high mine r.run (run_at-parts place zone r at).loose)

        -- and that is packed
        module _ (zone2 : List Block) (packed : IfSome (run_at place zone1) (λ r. zone2 ≡ tidy (with_run settle r)))
          where
            low-zone : zone2 ≡ put_run (settle high-run) r
            low-zone =
                let P : Option RunSpot → Type 0 = λ o. IfSome o (λ r. zone2 ≡ tidy (with_run settle r)) in
                let is : zone2 ≡ tidy (with_run settle (changed high-run r)) = subst P high-at packed in
                is ∙ tidy-change place zone r at tidied (settle high-run) (apart-settle high-run)

            abbrev lower : List Block
            lower = r.below ++ others mine r.run

            abbrev last-spot : Spot
            last-spot = record { below = lower; here = s.here; above = free frees ++ r.above }

            last-zone : zone2 ≡ lower ++ s.here ∷ (free frees ++ r.above)
            last-zone =
                low-zone ∙ ap (λ l. r.below ++ l ++ r.above) (settle-high number r.run
                (run_at-parts place zone r at).loose ∙ ap (λ l. others mine r.run ++ l ++ free frees) one)
                ∙ ap (λ l. r.below ++ l ++ r.above) (append_assoc (others mine r.run) (s.here ∷ []) (free frees))
                ∙ ap (λ l. l ++ r.above) (sym (append_assoc r.below (others mine r.run) (s.here ∷ free frees)))
                ∙ append_assoc lower (s.here ∷ free frees) r.above

            last-at : spot mine zone2 ≡ Some last-spot
            last-at = ap (spot mine) last-zone ∙ spot-past mine lower s.here (free frees ++ r.above)
                (none-append mine r.below (others mine r.run) none-below (has-others mine r.run)) here-passes

            module _ (bytes : ℕ) (more : size s.here < size (resized bytes s.here))
                (fits : has_free (size (resized bytes s.here) - size s.here) r.run ≡ true)
              where
                abbrev larger : Block
                larger = resized bytes s.here

                abbrev wanted : ℕ
                wanted = size larger - size s.here

                up-last : grow_up larger last-spot ≡ Some (lower ++ larger ∷ (free (frees - wanted) ++ r.above))
                up-last = ap (option_map (λ l. lower ++ larger ∷ l))
                    (taken-free wanted frees r.above (omega (arith, more)) (leb-true wanted frees fits))

                pub last-can : CanGrowUp mine bytes zone2
                last-can = (last-spot, last-at, more, ap is_some up-last)

                pub last-done : (zone3 : List Block) → GrewUp mine bytes zone2 zone3 → (passes' : List Block → Bool)
                    → run_spot passes' zone ≡ Some r → option_map (with_run
                    (λ run. others mine run ++ larger ∷ free (free_sum run - wanted))) (run_spot passes' zone)
                    ≡ Some zone3
                last-done zone3 grew passes' lowest =
                    let P : Option Spot → Type 0 = λ o. IfSome o (λ s. grow_up (resized bytes s.here) s ≡ Some zone3) in
                    let is : grow_up larger last-spot ≡ Some zone3 = subst P last-at grew in
                    ap (option_map (with_run (λ run. others mine run ++ larger ∷ free (free_sum run - wanted)))) lowest
                    ∙ ap Some (ap (λ l. l ++ r.above) (sym (append_assoc r.below (others mine r.run)
                    (larger ∷ free (frees - wanted)))) ∙ append_assoc lower (larger ∷ free (frees - wanted))
                    r.above)
                    ∙ sym up-last ∙ is

-- what is known of a block that grows as the last of its run
pub record IsLast (number n : ℕ) (zone : List Block) (run : ℕ) : Type 0 where
  pub s : Spot
  pub found : spot (is_relocatable number) zone ≡ Some s
  pub not_up : grow_up (resized n s.here) s ≡ None
  pub nowhere : place (size (resized n s.here)) zone ≡ None
  pub more : size s.here < size (resized n s.here)
  pub r : RunSpot
  pub lowest : run_spot (λ run. has (is_relocatable number) run && has_free (size (resized n s.here) - size s.here) run)
      zone ≡ Some r
  pub at : run_at run zone ≡ Some r
  pub passes : has (is_relocatable number) r.run ≡ true
  pub fits : has_free (size (resized n s.here) - size s.here) r.run ≡ true

pub is-last : (number n : ℕ) (zone : List Block) (run : ℕ) → IsToGrow (is_relocatable number) n zone
    → FindsGrowth (is_relocatable number) (grown n (spot (is_relocatable number) zone)) zone (Some (grows.Last run))
    → IsLast number n zone run
is-last number n zone run grows known =
    let s = known.0 in
    let P : Option Spot → Type 0 = λ o. (grow_up (grown n o) s ≡ None) × (place (size (grown n o)) zone ≡ None)
    × FindsLowestRun (λ run. has (is_relocatable number) run && has_free (growth (grown n o) s) run) zone
    (Some run) in
    let Q : Option Spot → Type 0 = λ o. IsSomeAnd o (λ s. size s.here < size (resized n s.here)) in
    let p : P (Some s) = subst P known.1 (known.2, known.3, known.4) in
    let parts = and_parts (has (is_relocatable number) p.2.0.run) _
    (run_spot-passes (λ run. has (is_relocatable number) run
    && has_free (size (resized n s.here) - size s.here) run) zone p.2.0 p.2.1) in
    record {
      s = s;
      found = known.1;
      not_up = p.0;
      nowhere = p.1;
      more = subst Q known.1 grows;
      r = p.2.0;
      lowest = p.2.1;
      at = p.2.2;
      passes = parts.0;
      fits = parts.1;
    }

-- the run that the block is moved to the top of
pub last-allowed : (number n : ℕ) (zone : List Block) (run : ℕ) → IsLast number n zone run
    → IsSomeAnd (run_at run zone) (λ r. IsTrue (has (is_relocatable number) r.run))
last-allowed number n zone run k =
    let P : Option RunSpot → Type 0 = λ o. IsSomeAnd o (λ r. IsTrue (has (is_relocatable number) r.run)) in
    subst P (sym k.at) k.passes

pub last-runs : (number n : ℕ) (zone zone1 : List Block) (run : ℕ) → IsLast number n zone run → tidy zone ≡ zone
    → count (is_relocatable number) zone ≤ 1 → IfSome (run_at run zone)
    (λ r. zone1 ≡ tidy (with_run (high (is_relocatable number)) r)) → IsSome (run_at run zone1)
last-runs number n zone zone1 run k tidied once hoisted =
    let P : Option RunSpot → Type 0 = λ o. IsSome o in
    subst P (sym (high-at number zone run k.r k.s tidied once k.at k.passes k.found zone1 hoisted)) refl

pub last-grows : (number n : ℕ) (zone zone1 zone2 : List Block) (run : ℕ) → IsLast number n zone run → tidy zone ≡ zone
    → count (is_relocatable number) zone ≤ 1
    → IfSome (run_at run zone) (λ r. zone1 ≡ tidy (with_run (high (is_relocatable number)) r))
    → IfSome (run_at run zone1) (λ r. zone2 ≡ tidy (with_run settle r)) → CanGrowUp (is_relocatable number) n zone2
last-grows number n zone zone1 zone2 run k tidied once hoisted packed =
    last-can number zone run k.r k.s tidied once k.at k.passes k.found zone1 hoisted zone2 packed n k.more k.fits

pub last-grown : (number n : ℕ) (zone zone1 zone2 zone3 : List Block) (run : ℕ) → IsLast number n zone run
    → tidy zone ≡ zone → count (is_relocatable number) zone ≤ 1
    → IfSome (run_at run zone) (λ r. zone1 ≡ tidy (with_run (high (is_relocatable number)) r))
    → IfSome (run_at run zone1) (λ r. zone2 ≡ tidy (with_run settle r))
    → GrewUp (is_relocatable number) n zone2 zone3
    → grow_mover (is_relocatable number) (grown n (spot (is_relocatable number) zone)) zone ≡ Some zone3
last-grown number n zone zone1 zone2 zone3 run k tidied once hoisted packed grew =
    rw (k.found, k.not_up, k.nowhere) (last-done number zone run k.r k.s tidied once k.at k.passes k.found zone1 hoisted
    zone2 packed n k.more k.fits zone3 grew (λ run. has (is_relocatable number) run
    && has_free (size (resized n k.s.here) - size k.s.here) run) k.lowest)

-- a block moves to a place of its own
module _ (number n p : ℕ) (zone zone1 : List Block) (at : ℕ) (o : Option Placement)
    (takes : size (grown n (spot (is_relocatable number) zone)) ≡ p)
    (known : (s : Spot) × (spot (is_relocatable number) zone ≡ Some s)
    × (grow_up (grown n (spot (is_relocatable number) zone)) s ≡ None)
    × FindsPlacement (size (grown n (spot (is_relocatable number) zone))) zone o)
    (there : IsAt (place p zone) zone1 (Some at)) (same : SameBlocks zone zone1)
  where
    pub away-room : IsSomeAnd (spot_at at zone1) (λ s. IsTrue (is_room (padded n) s.here))
    away-room =
        let P : Option Spot → Type 0 = λ o. IsSomeAnd o (λ s. IsTrue (is_room (padded n) s.here)) in
        let fits : p ≡ padded n = sym takes ∙ ap (λ o. size (grown n o)) known.1
        ∙ size-resized number n known.0.here (spot-passes (is_relocatable number) zone known.0 known.1) in
        let here : is_room (padded n) there.0.here ≡ true = ap (λ m. is_room m there.0.here) (sym fits)
        ∙ place-room p zone there.0 there.1 in
        subst P (sym there.2) here

    from : (t : Spot) × (spot (is_relocatable number) zone1 ≡ Some t) × (t.here ≡ known.0.here)
    from = here-same (spot (is_relocatable number) zone) (spot (is_relocatable number) zone1) known.0 known.1
        (same number)

    pub away-block : IsSome (spot (is_relocatable number) zone1)
    away-block = let P : Option Spot → Type 0 = λ o. IsSome o in subst P (sym from.1) refl

    pub away-done : (zone2 : List Block) → IfSome (spot_at at zone1)
        (λ s. IfSome (spot (is_relocatable number) zone1) (λ from. zone2
        ≡ filled (resized n from.here) (moved_away (is_relocatable number) s)))
        → grow_mover (is_relocatable number) (grown n (spot (is_relocatable number) zone)) zone ≡ Some zone2
    away-done zone2 moved =
        let P : Option Spot → Option Spot → Type 0 = λ a b. IfSome a
        (λ s. IfSome b (λ from. zone2 ≡ filled (resized n from.here) (moved_away (is_relocatable number) s))) in
        let Q : Option Spot → Type 0 = λ a. P a (spot (is_relocatable number) zone1) in
        let R : Option Spot → Type 0 = λ b. P (Some there.0) b in
        let is : zone2 ≡ filled (resized n from.0.here) (moved_away (is_relocatable number) there.0) =
        subst R from.1 (subst Q there.2 moved) in
        let up : grow_up (resized n known.0.here) known.0 ≡ None = ap (λ o. grow_up (grown n o) known.0) (sym known.1)
        ∙ known.2 in
        let spot_there : place (size (resized n known.0.here)) zone ≡ Some there.0 =
        ap (λ o. place (size (grown n o)) zone) (sym known.1) ∙ ap (λ m. place m zone) takes ∙ there.1 in
        rw (known.1, up, spot_there) (ap Some (ap (λ b. filled (resized n b)
        (moved_away (is_relocatable number) there.0)) (sym from.2) ∙ sym is))

-- the block is the same after purges
module _ (nd : Sparing) (number n k : ℕ) (zone : List Block) (spares : Spares nd (is_relocatable number))
    (stays : OpensNone nd)
  where
    pub purged-block : block_of number (purged k nd zone) ≡ block_of number zone
    purged-block =
        spot-find (is_relocatable number) (purged k nd zone) ∙ find-purged (is_relocatable number) nd (λ m. refl) spares
        stays k zone ∙ sym (spot-find (is_relocatable number) zone)

    pub purged-grown : (zone1 : List Block) → zone1 ≡ purged k nd zone
        → grown n (spot (is_relocatable number) zone1) ≡ grown n (spot (is_relocatable number) zone)
    purged-grown zone1 e = grown-same n (spot (is_relocatable number) zone1) (spot (is_relocatable number) zone)
        (ap (block_of number) e ∙ purged-block)

    pub purged-grows : (zone1 : List Block) → zone1 ≡ purged k nd zone → IsToGrow (is_relocatable number) n zone
        → IsToGrow (is_relocatable number) n zone1
    purged-grows zone1 e = cases (spot (is_relocatable number) zone) (spot (is_relocatable number) zone1)
        (ap (block_of number) e ∙ purged-block)
      where
        cases : (a b : Option Spot) → option_map (λ (s : Spot). s.here) b ≡ option_map (λ (s : Spot). s.here) a
            → IsSomeAnd a (λ s. size s.here < size (resized n s.here))
            → IsSomeAnd b (λ s. size s.here < size (resized n s.here))
        cases None b e h = absurd h
        cases (Some s) None e h = absurd (none-some _ e)
        cases (Some s) (Some t) e h = let P : Block → Type 0 = λ b. size b < size (resized n b) in
            subst P (sym (same_Some _ _ e)) h

    pub purged-more : (zone1 : List Block) (d : ℕ) → zone1 ≡ purged k nd zone
        → IsSomeAnd (spot (is_relocatable number) zone) (λ s. growth (grown n (spot (is_relocatable number) zone)) s ≡ d)
        → IsSomeAnd (spot (is_relocatable number) zone1) (λ s. growth (grown n (spot (is_relocatable number) zone1)) s ≡ d)
    purged-more zone1 d e h =
        let P : Block → List Block → Type 0 = λ b z. IsSomeAnd (spot (is_relocatable number) z) (λ s. growth b s ≡ d) in
        subst (λ b. P b zone1) (sym (purged-grown zone1 e)) (subst (λ z. P (grown n (spot (is_relocatable number) zone)) z)
        (sym e) (growth-stays (is_relocatable number) (grown n (spot (is_relocatable number) zone)) d nd (λ m. refl) spares
        stays k zone h))

    -- the growth in the zone after the purges
    pub purged-mover : (zone1 : List Block) → zone1 ≡ purged k nd zone
        → grow_mover (is_relocatable number) (grown n (spot (is_relocatable number) zone)) (purged k nd zone)
        ≡ grow_mover (is_relocatable number) (grown n (spot (is_relocatable number) zone1)) zone1
    purged-mover zone1 is = ap (grow_mover (is_relocatable number) (grown n (spot (is_relocatable number) zone))) (sym is)
        ∙ ap (λ b. grow_mover (is_relocatable number) b zone1) (sym (purged-grown zone1 is))

-- What the search for the growth of a block that may move comes to, after the least number of purges.
module _ (nd : Sparing) (number n : ℕ) (zone : List Block) (stays : OpensNone nd)
    (grows : IsToGrow (is_relocatable number) n zone) (k : ℕ)
    (least : k ≡ purges_for (λ z. is_some (grow_mover (is_relocatable number)
    (grown n (spot (is_relocatable number) zone)) z)) (spared nd) (opened nd zone))
  where
    abbrev new : Block
    new = grown n (spot (is_relocatable number) zone)

    abbrev sp : Block → Bool
    sp = spared nd

    abbrev path : Sought
    path = seek_growth (is_relocatable number) n sp zone

    abbrev grows_in : (Block → Bool) → List Block → Option (List Block)
    grows_in t z = grow_mover t new z

    named : is_same new ≡ is_relocatable number
    named = let found = some_and (spot (is_relocatable number) zone) (λ s. size s.here < size (resized n s.here)) grows in
        grown-named number n zone found.0 found.1

    whole : opened nd zone ≡ zone
    whole = opened-whole nd stays zone

    least_is : k ≡ purges_for (λ z. is_some (grows_in (is_same new) z)) sp zone
    least_is = least ∙ ap (purges_for (λ z. is_some (grows_in (is_relocatable number) z)) sp) whole
        ∙ ap (λ t. purges_for (λ z. is_some (grows_in t z)) sp zone) (sym named)

    there : grows_in (is_same new) (purge k sp zone) ≡ grows_in (is_relocatable number) (purged k nd zone)
    there = ap (λ t. grows_in t (purge k sp zone)) named
        ∙ ap (λ z. grows_in (is_relocatable number) (purge k sp z)) (sym whole)

    pub growth-went : (zone' : List Block) → grows_in (is_relocatable number) (purged k nd zone) ≡ Some zone'
        → (rest rest' : Rest) → Packs (lowered_by (Grow new) (purged k nd zone)) rest rest'
        → Went sp zone path true (k + 1) zone' rest rest'
    growth-went zone' done rest rest' packs =
        went-some sp zone (Grow new) refl (λ z. refl) k least_is zone' (there ∙ done) rest rest'
        (packs ∙ ap (λ z. counted rest.moves (lowered_by (Grow new) (purge k sp z))) whole)

    pub growth-told : (es : List Anchor) → is_some (grows_in (is_relocatable number) (purged k nd zone)) ≡ true
        → gone_from es nd k zone ≡ told_along es sp path zone
    growth-told es is = goes-named es nd stays k zone
        ∙ ap (told_named es) (sym (gone-some sp zone (Grow new) refl (λ z. refl) k least_is (ap is_some there ∙ is)))

    module _ (none : is_some (grows_in (is_relocatable number) (purged k nd zone)) ≡ false)
      where
        pub growth-not_went : (rest : Rest) → Went sp zone path false (k + 1) zone rest rest
        growth-not_went = went-none sp zone (Grow new) refl (λ z. refl) k least_is (ap is_some there ∙ none)

        pub growth-untold : (es : List Anchor) → told_along es sp path zone ≡ []
        growth-untold es = ap (told_named es)
            (gone-none sp zone (Grow new) refl (λ z. refl) k least_is (ap is_some there ∙ none))

-- the bytes that the block takes at its new size
pub grown-size : (number n takes : ℕ) (zone : List Block) → IsToGrow (is_relocatable number) n zone
    → phys n ≡ Some takes → size (grown n (spot (is_relocatable number) zone)) ≡ takes
grown-size number n takes zone grows fits = cases (spot (is_relocatable number) zone) refl grows
  where
    cases : (o : Option Spot) → spot (is_relocatable number) zone ≡ o
        → IsSomeAnd o (λ s. size s.here < size (resized n s.here)) → size (grown n o) ≡ takes
    cases None is h = absurd h
    cases (Some s) is h = size-resized number n s.here (spot-passes (is_relocatable number) zone s is)
        ∙ sym ((phys-some n takes fits).1)

-- and how many more than it had
pub grown-more : (number n takes held : ℕ) (zone : List Block) → IsToGrow (is_relocatable number) n zone
    → size (grown n (spot (is_relocatable number) zone)) ≡ takes
    → IfSome (spot (is_relocatable number) zone) (λ s. held ≡ size s.here)
    → IsSomeAnd (spot (is_relocatable number) zone)
    (λ s. growth (grown n (spot (is_relocatable number) zone)) s ≡ takes - held)
grown-more number n takes held zone grows is had = cases (spot (is_relocatable number) zone) grows is had
  where
    cases : (o : Option Spot) → IsSomeAnd o (λ s. size s.here < size (resized n s.here)) → size (grown n o) ≡ takes
        → IfSome o (λ s. held ≡ size s.here) → IsSomeAnd o (λ s. growth (grown n o) s ≡ takes - held)
    cases None h is had = absurd h
    cases (Some s) h is had = ap (λ m. m - size s.here) is ∙ ap (λ m. takes - m) (sym had)

pub grown-positive : (number n : ℕ) (zone : List Block) → IsToGrow (is_relocatable number) n zone
    → 0 < size (grown n (spot (is_relocatable number) zone))
grown-positive number n zone grows = cases (spot (is_relocatable number) zone) grows
  where
    cases : (o : Option Spot) → IsSomeAnd o (λ s. size s.here < size (resized n s.here)) → 0 < size (grown n o)
    cases None h = absurd h
    cases (Some s) h = omega (arith, h)

-- the slots stay while a block is moved to the top of its run, which is packed
pub rest-last : (a b c d : Rest) (o : Option RunSpot) → IsSome o → IsRest (with_placed 1 a) b
    → IfSome o (λ r. IsRest (with_moves (lowered_in_run r.run) b) c) → IsRest c d → KeepsSlots a d
rest-last a b c d None there hoisted packed grown = let f : false ≡ true = there in cc
rest-last a b c d (Some r) there hoisted packed grown = record {
  slots = λ k. grown.slots k ∙ packed.slots k ∙ hoisted.slots k;
  unused = grown.unused ∙ packed.unused ∙ hoisted.unused;
  all = grown.all ∙ packed.all ∙ hoisted.all;
  moves = refl;
  placed = refl;
  window = grown.window ∙ packed.window ∙ hoisted.window;
}
