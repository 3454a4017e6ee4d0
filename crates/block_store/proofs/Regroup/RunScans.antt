use Rattle.block_store.proofs.Cited.{◌≡◌, ℕ, ◌+◌, zero, suc, Bool, true, false, ◌&&◌, ◌||◌, List, [], ◌∷◌, ◌++◌, refl, sym, ◌∙◌, ap, cond}
use Rattle.block_store.proofs.Cited.{arith, Option, Some, None, nat_le, append_assoc, is_some, not, and_parts, and_from, le-leb, leb-true}
use Rattle.block_store.proofs.Cited.{cond-true, append-nil, list_any-append, option_map, Block, Free, Nonrelocatable, Masters, Relocatable}
use Rattle.block_store.proofs.Cited.{is_relocatable, size, sizes, free_of, free_sum, add, tidy, in_run, has, has_free, RunSpot, run_raised}
use Rattle.block_store.proofs.Cited.{lowest_run, run_spot, segments, Segments, joined, may_be_purged, lowest_purged, spared, opened, purged}
use Rattle.block_store.proofs.Cited.{is_number, is_wanted, any_run, meets, suits, met_after, scan_runs, Sparing}
use Rattle.block_store.proofs.Zone.Totals.{total-append}

-- where the blocks end
pub scan-end : (w : Option ℕ) (p : ℕ) (sp : Block → Bool) (k start free : ℕ) (met : Bool) (place : ℕ)
    → scan_runs w p sp k start free met place [] ≡ cond (met && nat_le p free) (Some start) None
scan-end w p sp zero start free met place = refl
scan-end w p sp (suc k) start free met place = refl

-- blocks that would be purged count as those that are
scan-lowest_purged : (w : Option ℕ) (p : ℕ) (sp : Block → Bool) (k start free : ℕ) (met : Bool) (place : ℕ)
    (bs : List Block)
    → scan_runs w p sp k start free met place bs ≡ scan_runs w p sp 0 start free met place (lowest_purged k sp bs)
scan-lowest_purged w p sp zero start free met place bs = refl
scan-lowest_purged w p sp (suc k) start free met place [] = refl
scan-lowest_purged w p sp (suc k) start free met place (b ∷ bs) =
    cases (may_be_purged sp b) (scan-lowest_purged w p sp k start (free + size b) met (place + size b) bs)
    (scan-lowest_purged w p sp (suc k) start (free + free_of b) (met_after w met b) (place + size b) bs)
    (scan-lowest_purged w p sp (suc k) (place + size b) 0 (any_run w) (place + size b) bs)
  where
    cases : (t : Bool) → scan_runs w p sp k start (free + size b) met (place + size b) bs
        ≡ scan_runs w p sp 0 start (free + size b) met (place + size b) (lowest_purged k sp bs)
        → scan_runs w p sp (suc k) start (free + free_of b) (met_after w met b) (place + size b) bs
        ≡ scan_runs w p sp 0 start (free + free_of b) (met_after w met b) (place + size b) (lowest_purged (suc k) sp bs)
        → scan_runs w p sp (suc k) (place + size b) 0 (any_run w) (place + size b) bs
        ≡ scan_runs w p sp 0 (place + size b) 0 (any_run w) (place + size b) (lowest_purged (suc k) sp bs)
        → cond t (scan_runs w p sp k start (free + size b) met (place + size b) bs)
        (cond (in_run b) (scan_runs w p sp (suc k) start (free + free_of b) (met_after w met b) (place + size b) bs)
        (cond (met && nat_le p free) (Some start) (scan_runs w p sp (suc k) (place + size b) 0 (any_run w)
        (place + size b) bs)))
        ≡ scan_runs w p sp 0 start free met place (cond t (Free (size b) ∷ lowest_purged k sp bs)
        (b ∷ lowest_purged (suc k) sp bs))
    cases true one run end = one
    cases false one run end = ap (λ o. cond (in_run b) o (cond (met && nat_le p free) (Some start)
        (scan_runs w p sp (suc k) (place + size b) 0 (any_run w) (place + size b) bs))) run
        ∙ ap (λ o. cond (in_run b) (scan_runs w p sp 0 start (free + free_of b) (met_after w met b) (place + size b)
        (lowest_purged (suc k) sp bs)) (cond (met && nat_le p free) (Some start) o)) end

-- Free blocks that are made one are as many bytes
scan-add : (w : Option ℕ) (p : ℕ) (sp : Block → Bool) (start free : ℕ) (met : Bool) (place : ℕ) (b : Block)
    (bs : List Block)
    → scan_runs w p sp 0 start free met place (add b bs) ≡ scan_runs w p sp 0 start free met place (b ∷ bs)
scan-add w p sp start free met place (Free zero) bs = ap (λ n. scan_runs w p sp 0 start n met place bs)
    (let z : free ≡ free + 0 = omega arith in z) ∙ ap (λ n. scan_runs w p sp 0 start (free + 0) met n bs)
    (let z : place ≡ place + 0 = omega arith in z)
scan-add w p sp start free met place (Free (suc n)) [] = refl
scan-add w p sp start free met place (Free (suc n)) (Free m ∷ bs) =
    ap (λ k. scan_runs w p sp 0 start k met (place + (suc n + m)) bs)
    (let z : free + (suc n + m) ≡ free + suc n + m = omega arith in z)
    ∙ ap (λ k. scan_runs w p sp 0 start (free + suc n + m) met k bs)
    (let z : place + (suc n + m) ≡ place + suc n + m = omega arith in z)
scan-add w p sp start free met place (Free (suc n)) (Nonrelocatable id content ∷ bs) = refl
scan-add w p sp start free met place (Free (suc n)) (Masters ∷ bs) = refl
scan-add w p sp start free met place (Free (suc n)) (Relocatable id flags content ∷ bs) = refl
scan-add w p sp start free met place (Nonrelocatable id content) bs = refl
scan-add w p sp start free met place Masters bs = refl
scan-add w p sp start free met place (Relocatable id flags content) bs = refl

scan-tidy : (w : Option ℕ) (p : ℕ) (sp : Block → Bool) (start free : ℕ) (met : Bool) (place : ℕ) (bs : List Block)
    → scan_runs w p sp 0 start free met place (tidy bs) ≡ scan_runs w p sp 0 start free met place bs
scan-tidy w p sp start free met place [] = refl
scan-tidy w p sp start free met place (b ∷ bs) =
    scan-add w p sp start free met place b (tidy bs)
    ∙ ap (λ o. cond (in_run b) o (cond (met && nat_le p free) (Some start)
    (scan_runs w p sp 0 (place + size b) 0 (any_run w) (place + size b) (tidy bs))))
    (scan-tidy w p sp start (free + free_of b) (met_after w met b) (place + size b) bs)
    ∙ ap (λ o. cond (in_run b) (scan_runs w p sp 0 start (free + free_of b) (met_after w met b) (place + size b) bs)
    (cond (met && nat_le p free) (Some start) o)) (scan-tidy w p sp (place + size b) 0 (any_run w) (place + size b)
    bs)

-- a run that has enough keeps it, whatever it has above
met-kept : (w : Option ℕ) (met : Bool) (b : Block) → met ≡ true → met_after w met b ≡ true
met-kept w met (Free n) e = e
met-kept w met (Nonrelocatable id content) e = e
met-kept w met Masters e = e
met-kept w met (Relocatable id flags content) e = ap (λ t. t || is_number w id) e

enough-kept : (p free n : ℕ) (met met' : Bool) → (met ≡ true → met' ≡ true) → (met && nat_le p free) ≡ true
    → (met' && nat_le p (free + n)) ≡ true
enough-kept p free n met met' has e =
    let parts = and_parts met (nat_le p free) e in
    and_from met' (nat_le p (free + n)) (has parts.0) (le-leb p (free + n) (omega (arith, leb-true p free parts.1)))

either-is : (t : Bool) (x y z : Option ℕ) → x ≡ z → y ≡ z → cond t x y ≡ z
either-is true x y z one other = one
either-is false x y z one other = other

-- so the search gives it, whatever is above
pub scan_kept : (w : Option ℕ) (p : ℕ) (sp : Block → Bool) (k start free : ℕ) (met : Bool) (place : ℕ)
    (bs : List Block) → (met && nat_le p free) ≡ true → scan_runs w p sp k start free met place bs ≡ Some start
scan_kept w p sp zero start free met place [] e = cond-true (met && nat_le p free) (Some start) None e
scan_kept w p sp (suc k) start free met place [] e = cond-true (met && nat_le p free) (Some start) None e
scan_kept w p sp zero start free met place (b ∷ bs) e =
    either-is (in_run b) _ _ (Some start)
    (scan_kept w p sp zero start (free + free_of b) (met_after w met b) (place + size b) bs
    (enough-kept p free (free_of b) met (met_after w met b) (met-kept w met b) e))
    (cond-true (met && nat_le p free) (Some start) _ e)
scan_kept w p sp (suc k) start free met place (b ∷ bs) e =
    either-is (may_be_purged sp b) _ _ (Some start)
    (scan_kept w p sp k start (free + size b) met (place + size b) bs
    (enough-kept p free (size b) met met (λ is. is) e))
    (either-is (in_run b) _ _ (Some start)
    (scan_kept w p sp (suc k) start (free + free_of b) (met_after w met b) (place + size b) bs
    (enough-kept p free (free_of b) met (met_after w met b) (met-kept w met b) e))
    (cond-true (met && nat_le p free) (Some start) _ e))

-- a part of a run with one block more
or-none : (a h : Bool) → (a || h) ≡ (a || (h || (false || false)))
or-none true h = refl
or-none false true = refl
or-none false false = refl

or-one : (a h t : Bool) → ((a || h) || t) ≡ (a || (h || (t || false)))
or-one true h t = refl
or-one false true t = refl
or-one false false true = refl
or-one false false false = refl

meets-more : (w : Option ℕ) (met : Bool) (done : List Block) (b : Block) → met ≡ meets w done
    → met_after w met b ≡ meets w (done ++ b ∷ [])
meets-more w met done b is = one b ∙ ap (λ t. any_run w || t) (sym (list_any-append (is_wanted w) done (b ∷ [])))
  where
    one : (b : Block) → met_after w met b ≡ (any_run w || (has (is_wanted w) done || (is_wanted w b || false)))
    one (Free n) = is ∙ or-none (any_run w) (has (is_wanted w) done)
    one (Nonrelocatable id content) = is ∙ or-none (any_run w) (has (is_wanted w) done)
    one Masters = is ∙ or-none (any_run w) (has (is_wanted w) done)
    one (Relocatable id flags content) = ap (λ t. t || is_number w id) is
        ∙ or-one (any_run w) (has (is_wanted w) done) (is_number w id)

meets-none : (w : Option ℕ) → any_run w ≡ meets w []
meets-none None = refl
meets-none (Some number) = refl

free-more : (free : ℕ) (done : List Block) (b : Block) → free ≡ free_sum done
    → free + free_of b ≡ free_sum (done ++ b ∷ [])
free-more free done b is = omega (arith, total-append free_of done (b ∷ []))

place-more : (place start : ℕ) (done : List Block) (b : Block) → place ≡ start + sizes done
    → place + size b ≡ start + sizes (done ++ b ∷ [])
place-more place start done b is = omega (arith, total-append size done (b ∷ []))

-- the search above part of a run finds the lowest run
scan-lowest : (w : Option ℕ) (p : ℕ) (sp : Block → Bool) (start free : ℕ) (met : Bool) (place : ℕ)
    (done bs : List Block) → free ≡ free_sum done → met ≡ meets w done → place ≡ start + sizes done
    → scan_runs w p sp 0 start free met place bs ≡ option_map (λ (r : RunSpot). start + sizes r.below)
    (lowest_run (suits w p) (done ++ (segments bs).first) (segments bs).rest)
scan-lowest w p sp start free met place done [] is has_it at =
    ap (λ n. cond (met && nat_le p n) (Some start) None) (is ∙ ap free_sum (sym (append-nil done)))
    ∙ ap (λ t. cond (t && has_free p (done ++ [])) (Some start) None)
    (has_it ∙ ap (meets w) (sym (append-nil done)))
    ∙ here (suits w p (done ++ []))
  where
    here : (t : Bool) → cond t (Some start) None ≡ option_map (λ (r : RunSpot). start + sizes r.below)
        (cond t (Some (record { below = []; run = done ++ []; above = [] })) None)
    here true = ap Some (let z : start ≡ start + 0 = omega arith in z)
    here false = refl
scan-lowest w p sp start free met place done (b ∷ bs) is has_it at =
    cases (in_run b)
    (scan-lowest w p sp start (free + free_of b) (met_after w met b) (place + size b) (done ++ b ∷ []) bs
    (free-more free done b is) (meets-more w met done b has_it) (place-more place start done b at))
    (scan-lowest w p sp (place + size b) 0 (any_run w) (place + size b) [] bs refl (meets-none w)
    (let z : place + size b ≡ place + size b + 0 = omega arith in z))
  where
    past : (d : List Block) → place + size b ≡ start + sizes (d ++ b ∷ []) → (o : Option RunSpot)
        → option_map (λ (r : RunSpot). place + size b + sizes r.below) o
        ≡ option_map (λ (r : RunSpot). start + sizes r.below) (option_map (run_raised (d ++ b ∷ [])) o)
    past d at None = refl
    past d at (Some r) = ap Some (omega (arith, total-append size (d ++ b ∷ []) r.below, at))

    either : (d above : List Block) (t : Bool) (x : Option ℕ) (o : Option RunSpot)
        → x ≡ option_map (λ (r : RunSpot). start + sizes r.below) (option_map (run_raised (d ++ b ∷ [])) o)
        → cond t (Some start) x ≡ option_map (λ (r : RunSpot). start + sizes r.below)
        (cond t (Some (record { below = []; run = d; above = above })) (option_map (run_raised (d ++ b ∷ [])) o))
    either d above true x o e = ap Some (let z : start ≡ start + 0 = omega arith in z)
    either d above false x o e = e

    ends : (d : List Block) → free ≡ free_sum d → met ≡ meets w d → place ≡ start + sizes d → (x : Option ℕ)
        → x ≡ option_map (λ (r : RunSpot). place + size b + sizes r.below)
        (lowest_run (suits w p) (segments bs).first (segments bs).rest)
        → cond (met && nat_le p free) (Some start) x ≡ option_map (λ (r : RunSpot). start + sizes r.below)
        (lowest_run (suits w p) d (record { barrier = b; run = (segments bs).first } ∷ (segments bs).rest))
    ends d is has_it at x e =
        ap (λ n. cond (met && nat_le p n) (Some start) x) is ∙ ap (λ t. cond (t && has_free p d) (Some start) x) has_it
        ∙ either d (b ∷ joined (segments bs).first (segments bs).rest) (suits w p d) x
        (lowest_run (suits w p) (segments bs).first (segments bs).rest)
        (e ∙ past d (place-more place start d b at) (lowest_run (suits w p) (segments bs).first (segments bs).rest))

    cases : (t : Bool) → scan_runs w p sp 0 start (free + free_of b) (met_after w met b) (place + size b) bs
        ≡ option_map (λ (r : RunSpot). start + sizes r.below) (lowest_run (suits w p)
        ((done ++ b ∷ []) ++ (segments bs).first) (segments bs).rest)
        → scan_runs w p sp 0 (place + size b) 0 (any_run w) (place + size b) bs
        ≡ option_map (λ (r : RunSpot). place + size b + sizes r.below)
        (lowest_run (suits w p) (segments bs).first (segments bs).rest)
        → cond t (scan_runs w p sp 0 start (free + free_of b) (met_after w met b) (place + size b) bs)
        (cond (met && nat_le p free) (Some start) (scan_runs w p sp 0 (place + size b) 0 (any_run w)
        (place + size b) bs))
        ≡ (let s : Segments = cond t (record { first = b ∷ (segments bs).first; rest = (segments bs).rest })
        (record { first = []; rest = record { barrier = b; run = (segments bs).first } ∷ (segments bs).rest }) in
        option_map (λ (r : RunSpot). start + sizes r.below) (lowest_run (suits w p) (done ++ s.first) s.rest))
    cases true run end = run ∙ ap (λ l. option_map (λ (r : RunSpot). start + sizes r.below)
        (lowest_run (suits w p) l (segments bs).rest)) (append_assoc done (b ∷ []) (segments bs).first)
    cases false run end = ends (done ++ []) (is ∙ ap free_sum (sym (append-nil done)))
        (has_it ∙ ap (meets w) (sym (append-nil done))) (at ∙ ap (λ l. start + sizes l) (sym (append-nil done)))
        (scan_runs w p sp 0 (place + size b) 0 (any_run w) (place + size b) bs) end

-- the lowest run that suits after k purges
pub scan-is : (w : Option ℕ) (p : ℕ) (n : Sparing) (k : ℕ) (zone : List Block)
    → scan_runs w p (spared n) k 0 0 (any_run w) 0 (opened n zone)
    ≡ option_map (λ (r : RunSpot). sizes r.below) (run_spot (suits w p) (purged k n zone))
scan-is w p n k zone =
    scan-lowest_purged w p (spared n) k 0 0 (any_run w) 0 (opened n zone)
    ∙ sym (scan-tidy w p (spared n) 0 0 (any_run w) 0 (lowest_purged k (spared n) (opened n zone)))
    ∙ scan-lowest w p (spared n) 0 0 (any_run w) 0 [] (purged k n zone) refl (meets-none w) refl
    ∙ from_zero (run_spot (suits w p) (purged k n zone))
  where
    from_zero : (o : Option RunSpot) → option_map (λ (r : RunSpot). 0 + sizes r.below) o
        ≡ option_map (λ (r : RunSpot). sizes r.below) o
    from_zero None = refl
    from_zero (Some r) = ap Some (let z : 0 + sizes r.below ≡ sizes r.below = omega arith in z)

-- the block of a slot, and any run
wanted-is : (number : ℕ) (b : Block) → is_wanted (Some number) b ≡ is_relocatable number b
wanted-is number (Free n) = refl
wanted-is number (Nonrelocatable id content) = refl
wanted-is number Masters = refl
wanted-is number (Relocatable id flags content) = refl

pub suits-slot : (number p : ℕ) → suits (Some number) p ≡ (λ run. has (is_relocatable number) run && has_free p run)
suits-slot number p = ap {B = List Block → Bool} (λ (test : Block → Bool). λ (run : List Block). has test run
    && has_free p run) (λ i b. wanted-is number b i)

-- a run need have no block where none is named
pub any-none : (number : Option ℕ) (none : Bool) → is_some number ≡ not none → none ≡ any_run number
any-none None true e = refl
any-none None false e = e
any-none (Some k) true e = e
any-none (Some k) false e = refl
